use Rattle.over_eval.proofs.NeverLaws.{never_by_rowless_part}
use Rattle.over_eval.proofs.laws.never_where_a_part_has_no_rows.Goals as goal

pub returns : goal.returns
returns c = never_by_rowless_part c.args.task.now
