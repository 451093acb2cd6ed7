use Rattle.std.proofs.Common.{◌≡◌, arith, rules, length, subst, sym, ◌∙◌, Bool, None}
use Rattle.std.specs.Prelude.{All}
use Rattle.query_core.specs.Grammar.{maps}
use Rattle.query_core.specs.Membership.{query_fault}
use Rattle.query_core.specs.View.{tree}
use Rattle.rank_core.specs.View.{ranked_queries}
use Rattle.table_core.specs.Rows.{types_of}
use Rattle.root_search.specs.Answers.{query_of, AreOfGrammar}
use Rattle.root_search.specs.Reads.{preds_of}
use Rattle.root_search.specs.Readings.{readings}
use Rattle.root_search.proofs.ReadLaws.{readings_wide, readings_of_grammar, filling_at, fitting_at, all_read}
use Rattle.root_search.specs.Reads.{choice_answers}
use Rattle.root_search.proofs.ManyLaws.{too_many_at, too_much_read}
use Rattle.root_search.proofs.finder.RootReceiver.take.Goals as goal

pub push_choice-requires-clause-wide : goal.push_choice-requires-clause-wide
push_choice-requires-clause-wide c =
    let o = c.args.offer.now in
    let task = c.args.self.now.task.now in
    let is : c.readings-readings.result.now ≡ readings o.types.now o.candidates.now task.output = c.readings-readings.ensures ∙ c.requires.found in
    let wide = filling_at (λ ch. length ch.bits ≡ length o.candidates.now) o.choices.now c.loop-choice.choice-index c.choice-item.result c.loop-choice-test.true c.choice-item.is c.requires.wide in
    subst (λ rs. All (λ r. All (λ t. length c.choice-item.result.bits ≡ length t.mask) r.targets) rs) (sym is) (readings_wide o.types.now o.candidates.now task c.choice-item.result.bits wide)

pub push_choice-requires-clause-fits : goal.push_choice-requires-clause-fits
push_choice-requires-clause-fits c =
    let o = c.args.offer.now in
    let task = c.args.self.now.task.now in
    let skeleton = tree c.args.self.now.skeleton.now in
    let is : c.readings-readings.result.now ≡ readings o.types.now o.candidates.now task.output = c.readings-readings.ensures ∙ c.requires.found in
    let each = fitting_at task skeleton o.types.now o.preds.now o.candidates.now o.choices.now c.requires.accepts in
    let fits = filling_at (λ ch. AreOfGrammar task skeleton (preds_of o.preds.now ch) (maps o.types.now (types_of task.output))) o.choices.now c.loop-choice.choice-index c.choice-item.result c.loop-choice-test.true c.choice-item.is each in
    subst (λ rs. All (λ r. (distinct : Bool) → query_fault task (query_of skeleton (preds_of o.preds.now c.choice-item.result) r.picks distinct) ≡ None) rs) (sym is)
    (readings_of_grammar task skeleton o.types.now o.candidates.now (preds_of o.preds.now c.choice-item.result) fits)

pub returns-clause-gathered : goal.returns-clause-gathered
returns-clause-gathered c =
    let o = c.args.offer.now in
    let task = c.args.self.now.task.now in
    let is : c.readings-readings.result.now ≡ readings o.types.now o.candidates.now task.output = c.readings-readings.ensures ∙ c.requires.found in
    all_read task c.args.self.now.number (tree c.args.self.now.skeleton.now) o.types.now o.preds.now o.candidates.now o.choices.now c.readings-readings.result.now (ranked_queries c.args.store.now) (ranked_queries c.loop-choice.store) c.loop-choice.choice-index
    is c.requires.wide (omega (arith, c.loop-choice-test.false)) c.loop-choice.invariant.0

pub returns-in_err-push_choice-clause-heavy : goal.returns-in_err-push_choice-clause-heavy
returns-in_err-push_choice-clause-heavy c is =
    let o = c.args.offer.now in
    let r = c.args.self.now in
    let task = r.task.now in
    let rs = c.readings-readings.result.now in
    let read : rs ≡ readings o.types.now o.candidates.now task.output = c.readings-readings.ensures ∙ c.requires.found in
    too_much_read r.bound task r.number (tree r.skeleton.now) (ranked_queries c.args.store.now) o.types.now o.preds.now o.candidates.now o.choices.now rs read c.requires.wide
    (too_many_at r.bound (choice_answers task r.number (tree r.skeleton.now) o.preds.now rs) (ranked_queries c.loop-choice.store) (ranked_queries c.args.store.now) o.choices.now c.loop-choice.choice-index c.choice-item.result
    c.loop-choice-test.true c.choice-item.is c.loop-choice.invariant.0 (c.push_choice.ensures.heavy (search (rules, is, c.from_residual.ensures, c.in_err-push_choice.was, c.branch-push_choice.ensures, c.in_err-push_choice.is))))
