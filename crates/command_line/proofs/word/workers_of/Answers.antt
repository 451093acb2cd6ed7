use Rattle.std.proofs.Common.{refl, sym, ◌∙◌, arith}
use Rattle.command_line.proofs.WordLaws.{spelled_here, spelled_past, spelled_end}
use Rattle.command_line.proofs.word.workers_of.Goals as goal

pub loop-number-init : goal.loop-number-init
loop-number-init c = refl

pub returns-then-spells : goal.returns-then-spells
returns-then-spells c = sym (c.loop-number.invariant ∙ spelled_here c.args.word.now c.loop-number.number (omega arith) (sym c.spells.ensures ∙ c.if-spells.true))

pub loop-number-preserved : goal.loop-number-preserved
loop-number-preserved c = c.loop-number.invariant ∙ spelled_past c.args.word.now c.loop-number.number (omega arith) (sym c.spells.ensures ∙ c.if-spells.false)

pub returns : goal.returns
returns c = sym (c.loop-number.invariant ∙ spelled_end c.args.word.now c.loop-number.number (omega arith))
