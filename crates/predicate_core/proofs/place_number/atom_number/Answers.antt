use Rattle.std.proofs.Common.{ap, sym, ◌∙◌, unwrap_or}
use Rattle.predicate_core.specs.Atoms.{atom_list}
use Rattle.predicate_core.proofs.PlaceLaws.{search_count, search_place}
use Rattle.predicate_core.proofs.PredPlaceLaws.{atoms_few, atom_numbered}
use Rattle.predicate_core.proofs.place_number.atom_number.Goals as goal

pub search_atoms-search-requires : goal.search_atoms-search-requires
search_atoms-search-requires c = record { few = atoms_few c.args.types.now c.args.constants.now c.requires.few }

pub returns : goal.returns
returns c =
    let types = c.args.types.now in
    let constants = c.args.constants.now in
    let atoms = atom_list types constants in
    let s = c.search_atoms-search.result in
    let count = search_count s c.args.atom.now atoms c.search_atoms-search.ensures in
    let place = search_place s c.args.atom.now atoms c.search_atoms-search.ensures in
    c.place_or.ensures ∙ (ap (λ n. unwrap_or s.place n) count ∙ sym (atom_numbered types constants c.args.atom.now s.place place))
