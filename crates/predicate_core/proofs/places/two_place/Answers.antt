use Rattle.std.proofs.Common.{arith}
use Rattle.predicate_core.specs.Atoms.{atom_list}
use Rattle.predicate_core.proofs.OnceLaws.{once_atoms}
use Rattle.predicate_core.proofs.PlaceLaws.{search_count, search_below, pair_found}
use Rattle.predicate_core.proofs.places.two_place.Goals as goal

pub pair_spot-requires-clause-few : goal.pair_spot-requires-clause-few
pair_spot-requires-clause-few c =
    let atoms = atom_list c.args.types.now c.args.constants.now in
    let count = search_count c.search_atoms-first.result c.args.a atoms c.search_atoms-first.ensures in
    omega (arith, count, c.requires.few)

pub pair_spot-requires-clause-second : goal.pair_spot-requires-clause-second
pair_spot-requires-clause-second c =
    let atoms = atom_list c.args.types.now c.args.constants.now in
    search_below c.search_atoms-first.result c.search_atoms-second.result c.args.a c.args.b atoms c.search_atoms-first.ensures c.search_atoms-second.ensures

pub returns-clause-place : goal.returns-clause-place
returns-clause-place c =
    let atoms = atom_list c.args.types.now c.args.constants.now in
    pair_found c.search_atoms-first.result c.search_atoms-second.result c.args.a c.args.b atoms c.pair_spot.result (once_atoms c.args.types.now c.args.constants.now) c.search_atoms-first.ensures c.search_atoms-second.ensures c.pair_spot.ensures.place
