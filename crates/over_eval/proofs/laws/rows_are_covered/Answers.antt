use Rattle.over_eval.proofs.CoverLaws.{rows_covered}
use Rattle.over_eval.proofs.laws.rows_are_covered.Goals as goal

pub returns : goal.returns
returns c = rows_covered c.args.task.now
