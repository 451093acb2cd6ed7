use Rattle.std.proofs.Common.{arith}
use Rattle.predicate_core.specs.Atoms.{atom_list}
use Rattle.predicate_core.proofs.OnceLaws.{once_atoms}
use Rattle.predicate_core.proofs.PlaceLaws.{search_count, search_below, triple_found_at}
use Rattle.predicate_core.proofs.places.three_place.Goals as goal

pub triple_spot-requires-clause-few : goal.triple_spot-requires-clause-few
triple_spot-requires-clause-few c =
    let atoms = atom_list c.args.types.now c.args.constants.now in
    let count = search_count c.search_atoms-first.result c.args.a atoms c.search_atoms-first.ensures in
    omega (arith, count, c.requires.few)

pub triple_spot-requires-clause-third : goal.triple_spot-requires-clause-third
triple_spot-requires-clause-third c =
    let atoms = atom_list c.args.types.now c.args.constants.now in
    search_below c.search_atoms-first.result c.search_atoms-third.result c.args.a c.args.c atoms c.search_atoms-first.ensures c.search_atoms-third.ensures

pub returns-clause-place : goal.returns-clause-place
returns-clause-place c =
    let atoms = atom_list c.args.types.now c.args.constants.now in
    triple_found_at c.search_atoms-first.result c.search_atoms-second.result c.search_atoms-third.result c.args.a c.args.b c.args.c atoms c.triple_spot.result (once_atoms c.args.types.now c.args.constants.now) c.search_atoms-first.ensures c.search_atoms-second.ensures c.search_atoms-third.ensures c.triple_spot.ensures.place
