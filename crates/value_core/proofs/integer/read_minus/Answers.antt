use Rattle.std.proofs.Common.{◌∙◌, ◌≡◌, true, length, drop, take, ◌-◌, arith}
use Rattle.std.proofs.lemmas.Grind.{common_steps}
use Rattle.value_core.specs.Integer.{is_numeral}
use Rattle.value_core.proofs.Numerals.{parsed_minus}
use Rattle.value_core.proofs.integer.read_minus.Goals as goal

pub returns-in-Ok : goal.returns-in-Ok
returns-in-Ok c =
    let rest : take (length c.args.bytes.now - 1) (drop 1 c.args.bytes.now) ≡ drop 1 c.args.bytes.now = grind (arith, common_steps) in
    let digits : is_numeral (drop 1 c.args.bytes.now) ≡ true = cc in
    c.ok.ensures.value ∙ parsed_minus c.args.bytes.now c.parse.result (rw c.in-Ok.ensures.cases.0 at c.parse.ensures.value.0) digits c.requires
