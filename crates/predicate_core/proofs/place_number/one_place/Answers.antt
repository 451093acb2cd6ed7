use Rattle.std.proofs.Common.{true, refl}
use Rattle.predicate_core.specs.declared.pred.Pred.TheVariants.{One}
use Rattle.predicate_core.specs.Atoms.{atom_list, pred_list}
use Rattle.predicate_core.proofs.PlaceLaws.{search_place, search_small}
use Rattle.predicate_core.proofs.PredPlaceLaws.{moved_place, one_place}
use Rattle.predicate_core.proofs.place_number.one_place.Goals as goal

pub moved-requires-clause-place : goal.moved-requires-clause-place
moved-requires-clause-place c =
    let atoms = atom_list c.args.types.now c.args.constants.now in
    search_small c.search_atoms.result c.args.a atoms c.search_atoms.ensures c.requires.few

pub returns : goal.returns
returns c =
    let atoms = atom_list c.args.types.now c.args.constants.now in
    let s = c.search_atoms.result in
    moved_place (One c.args.a) (One c.args.a) (pred_list atoms c.args.bound) 1 1 true s.place c.moved.result refl refl c.moved.ensures
    (one_place atoms c.args.bound c.args.a s.place (search_place s c.args.a atoms c.search_atoms.ensures))
