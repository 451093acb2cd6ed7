use Rattle.std.proofs.Common.{◌≡◌, ◌+◌, ◌-◌, ◌*◌, ◌<◌, length, sym, ◌∙◌, arith}
use Rattle.predicate_core.specs.Counts.{pair_count}
use Rattle.predicate_core.proofs.NumberLaws.{more_front, more_back}
use Rattle.predicate_core.proofs.pred_list.two_up.Goals as goal

pub returns-then-number-count : goal.returns-then-number-count
returns-then-number-count c =
    let below : c.args.number < 2 * pair_count (length c.args.atoms.now) = rw (← c.pair_count-count.ensures.count) c.if-number-count.true in
    c.two_at.ensures ∙ sym (more_front c.args.atoms.now c.args.bound c.args.number c.if-bound-lt2.false below)

pub returns-else-number-count : goal.returns-else-number-count
returns-else-number-count c =
    let rest = c.args.number - 2 * c.pair_count-count.result in
    let past : c.args.number ≡ 2 * pair_count (length c.args.atoms.now) + rest = rw (← c.pair_count-count.ensures.count) (omega arith) in
    c.three_up-else-number-count.ensures ∙ sym (more_back c.args.atoms.now c.args.bound rest c.args.number c.if-bound-lt2.false past)
