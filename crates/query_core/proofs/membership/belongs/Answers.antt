use Rattle.std.proofs.Common.{sym, ap, ◌∙◌, inr}
use Rattle.query_core.specs.View.{select}
use Rattle.query_core.specs.Membership.{query_fault}
use Rattle.query_core.proofs.membership.belongs.Goals as goal

pub returns-in-Ok-None : goal.returns-in-Ok-None
returns-in-Ok-None c = ap (λ task. query_fault task (select c.args.query.now)) (sym c.parts.ensures.parts) ∙ sym c.in-Ok-None.ensures ∙ c.in-Ok-None.field-0-is

pub returns-in-Ok-Some : goal.returns-in-Ok-Some
returns-in-Ok-Some c =
    inr (ap (λ task. query_fault task (select c.args.query.now)) (sym c.parts.ensures.parts) ∙ sym c.in-Ok-Some.ensures ∙ c.in-Ok-Some.field-0-is)
