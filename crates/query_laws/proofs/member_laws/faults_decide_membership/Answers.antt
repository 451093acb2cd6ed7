use Rattle.std.proofs.Common.{sym, ap, ◌∙◌}
use Rattle.table_core.specs.Limits.{first_bad_part}
use Rattle.query_laws.proofs.MembershipLaws.{faults_decide}
use Rattle.query_laws.proofs.member_laws.faults_decide_membership.Goals as goal

pub returns : goal.returns
returns c = faults_decide c.args.task.now (ap first_bad_part (sym c.parts.ensures.parts) ∙ c.parts.ensures.within)
