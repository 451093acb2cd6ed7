use Rattle.query_laws.proofs.StandardAnswerLaws.{answers_are_forms}
use Rattle.query_laws.proofs.standard_laws.answers_are_standard_forms.Goals as goal

pub returns-clause-forms : goal.returns-clause-forms
returns-clause-forms c = answers_are_forms c.args.task.now
