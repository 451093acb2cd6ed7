use Rattle.query_core.specs.View.{select}
use Rattle.bag_eval.proofs.StandardFormLaws.{form_listed, form_standard, form_same_rows}
use Rattle.bag_eval.proofs.standard.standard_form.Goals as goal

pub returns-in_ok-form-in-Some-clause-listed : goal.returns-in_ok-form-in-Some-clause-listed
returns-in_ok-form-in-Some-clause-listed c =
    let is = rw c.parts-task.ensures.parts at c.in_ok-form-in-Some.ensures in
    form_listed c.args.task.now (select c.args.query.now) (select c.in_ok-form-in-Some.form) is

pub returns-in_ok-form-in-Some-clause-standard : goal.returns-in_ok-form-in-Some-clause-standard
returns-in_ok-form-in-Some-clause-standard c =
    let is = rw c.parts-task.ensures.parts at c.in_ok-form-in-Some.ensures in
    form_standard c.args.task.now (select c.args.query.now) (select c.in_ok-form-in-Some.form) is

pub returns-in_ok-form-in-Some-clause-same_rows : goal.returns-in_ok-form-in-Some-clause-same_rows
returns-in_ok-form-in-Some-clause-same_rows c =
    let is = rw c.parts-task.ensures.parts at c.in_ok-form-in-Some.ensures in
    form_same_rows c.args.task.now (select c.args.query.now) (select c.in_ok-form-in-Some.form) is
