use Rattle.predicate_core.specs.declared.atom.Atom.TheVariants.{IsNull}
use Rattle.predicate_core.specs.Atoms.{atom_list}
use Rattle.predicate_core.proofs.PlaceLaws.{search_count}
use Rattle.predicate_core.proofs.place_number.atoms_len.Goals as goal

pub returns : goal.returns
returns c = search_count c.search_atoms.result (IsNull 0) (atom_list c.args.types.now c.args.constants.now) c.search_atoms.ensures
