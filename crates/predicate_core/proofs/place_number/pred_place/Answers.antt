use Rattle.std.proofs.Common.{◌≡◌, ◌+◌, ◌*◌, ap, ◌∙◌, length, nat_le, arith}
use Rattle.predicate_core.specs.declared.pred.Pred.TheVariants.{And2, Or2, And3, Or3}
use Rattle.predicate_core.specs.Atoms.{atom_list, pred_list}
use Rattle.predicate_core.specs.Counts.{pair_count, triple_count}
use Rattle.predicate_core.proofs.PredPlaceLaws.{moved_place, spot_and2, spot_or2, spot_and3, spot_or3}
use Rattle.predicate_core.proofs.place_number.pred_place.Goals as goal

pub returns-in-And2 : goal.returns-in-And2
returns-in-And2 c =
    let atoms = atom_list c.args.types.now c.args.constants.now in
    let bound = c.args.bound in
    let n = c.atoms_len-n.result in
    let start : 1 + n ≡ 1 + length atoms = omega (arith, c.atoms_len-n.ensures) in
    let is : c.args.pred.now ≡ And2 c.in-And2.a c.in-And2.b = cc in
    moved_place c.args.pred.now (And2 c.in-And2.a c.in-And2.b) (pred_list atoms bound) (1 + n) (1 + length atoms) (nat_le 2 bound) c.two_place.result c.moved.result is start c.moved.ensures
    (spot_and2 atoms bound c.in-And2.a c.in-And2.b c.two_place.result c.two_place.ensures.place)

pub returns-in-Or2 : goal.returns-in-Or2
returns-in-Or2 c =
    let atoms = atom_list c.args.types.now c.args.constants.now in
    let bound = c.args.bound in
    let n = c.atoms_len-n.result in
    let twos : c.pair_count-twos.result ≡ pair_count (length atoms) = c.pair_count-twos.ensures.count ∙ ap pair_count c.atoms_len-n.ensures in
    let start : 1 + n + c.pair_count-twos.result ≡ 1 + length atoms + pair_count (length atoms) = omega (arith, c.atoms_len-n.ensures, twos) in
    let is : c.args.pred.now ≡ Or2 c.in-Or2.a c.in-Or2.b = cc in
    moved_place c.args.pred.now (Or2 c.in-Or2.a c.in-Or2.b) (pred_list atoms bound) (1 + n + c.pair_count-twos.result) (1 + length atoms + pair_count (length atoms)) (nat_le 2 bound) c.two_place-in-Or2.result c.moved-in-Or2.result is start c.moved-in-Or2.ensures
    (spot_or2 atoms bound c.in-Or2.a c.in-Or2.b c.two_place-in-Or2.result c.two_place-in-Or2.ensures.place)

pub returns-in-And3 : goal.returns-in-And3
returns-in-And3 c =
    let atoms = atom_list c.args.types.now c.args.constants.now in
    let bound = c.args.bound in
    let n = c.atoms_len-n.result in
    let twos : c.pair_count-twos.result ≡ pair_count (length atoms) = c.pair_count-twos.ensures.count ∙ ap pair_count c.atoms_len-n.ensures in
    let start : 1 + n + 2 * c.pair_count-twos.result ≡ 1 + length atoms + 2 * pair_count (length atoms) = omega (arith, c.atoms_len-n.ensures, twos) in
    let is : c.args.pred.now ≡ And3 c.in-And3.a c.in-And3.b c.in-And3.c = cc in
    moved_place c.args.pred.now (And3 c.in-And3.a c.in-And3.b c.in-And3.c) (pred_list atoms bound) (1 + n + 2 * c.pair_count-twos.result) (1 + length atoms + 2 * pair_count (length atoms)) (nat_le 3 bound) c.three_place-place.result c.moved-in-And3.result is start c.moved-in-And3.ensures
    (spot_and3 atoms bound c.in-And3.a c.in-And3.b c.in-And3.c c.three_place-place.result c.three_place-place.ensures.place)

pub returns-in-Or3 : goal.returns-in-Or3
returns-in-Or3 c =
    let atoms = atom_list c.args.types.now c.args.constants.now in
    let bound = c.args.bound in
    let n = c.atoms_len-n.result in
    let twos : c.pair_count-twos.result ≡ pair_count (length atoms) = c.pair_count-twos.ensures.count ∙ ap pair_count c.atoms_len-n.ensures in
    let threes : c.triple_count-threes.result ≡ triple_count (length atoms) = c.triple_count-threes.ensures.count ∙ ap triple_count c.atoms_len-n.ensures in
    let start : 1 + n + 2 * c.pair_count-twos.result + c.triple_count-threes.result ≡ 1 + length atoms + 2 * pair_count (length atoms) + triple_count (length atoms) = omega (arith, c.atoms_len-n.ensures, twos, threes) in
    let is : c.args.pred.now ≡ Or3 c.in-Or3.a c.in-Or3.b c.in-Or3.c = cc in
    moved_place c.args.pred.now (Or3 c.in-Or3.a c.in-Or3.b c.in-Or3.c) (pred_list atoms bound) (1 + n + 2 * c.pair_count-twos.result + c.triple_count-threes.result) (1 + length atoms + 2 * pair_count (length atoms) + triple_count (length atoms)) (nat_le 3 bound) c.three_place-place-in-Or3.result c.moved-in-Or3.result is start c.moved-in-Or3.ensures
    (spot_or3 atoms bound c.in-Or3.a c.in-Or3.b c.in-Or3.c c.three_place-place-in-Or3.result c.three_place-place-in-Or3.ensures.place)
