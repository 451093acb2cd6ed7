use Rattle.over_eval.proofs.LiveLaws.{only_live_answer, answers_of_live}
use Rattle.over_eval.proofs.laws.what_is_not_live_has_no_answer.Goals as goal

pub returns-clause-none : goal.returns-clause-none
returns-clause-none c = only_live_answer c.args.task.now

pub returns-clause-live : goal.returns-clause-live
returns-clause-live c = answers_of_live c.args.task.now
