use Rattle.std.proofs.Common.{◌≡◌, length, false, sym, ap, subst, ◌∙◌, rules}
use Rattle.query_core.specs.View.{tree}
use Rattle.root_search.specs.Readings.{readings}
use Rattle.map_walk.specs.Open.{is_open_by}
use Rattle.map_walk.specs.Readings.{row_has}
use Rattle.root_search.specs.Wanted.{Looked, AreWide}
use Rattle.root_search.proofs.WantedLaws.{looked_sifts, are_wide}
use Rattle.root_search.proofs.ReadLaws.{nothing_read}
use Rattle.root_search.proofs.ReadingLaws.{readings_walked, none_read}
use Rattle.root_search.proofs.finder.RootReceiver.look.Goals as goal

pub returns-clause-found : goal.returns-clause-found
returns-clause-found c =
    ap (λ (l : Looked). l.readings) c.new.ensures ∙ c.in_ok-list.ensures ∙ sym (readings_walked c.args.types.now c.args.candidates.now c.output-2.result.now) ∙ ap (readings c.args.types.now c.args.candidates.now) c.output-2.ensures

pub returns-then-is_empty-clause-nothing : goal.returns-then-is_empty-clause-nothing
returns-then-is_empty-clause-nothing c is_none =
    let r = c.args.self.now in
    let is = c.in_ok-list.ensures ∙ sym (readings_walked c.args.types.now c.args.candidates.now c.output-2.result.now) ∙ ap (readings c.args.types.now c.args.candidates.now) c.output-2.ensures in
    nothing_read r.task.now r.number (tree r.skeleton.now) c.args.types.now c.args.candidates.now (sym is ∙ c.is_empty.ensures.0 c.if-is_empty.true)

pub returns-then-not-is_open-clause-nothing : goal.returns-then-not-is_open-clause-nothing
returns-then-not-is_open-clause-nothing c is_none =
    let r = c.args.self.now in
    let shut : c.is_open.result ≡ false = search (rules, c.if-not-is_open.true) in
    let is = ap (is_open_by row_has c.args.types.now c.args.candidates.now) c.output.ensures in
    nothing_read r.task.now r.number (tree r.skeleton.now) c.args.types.now c.args.candidates.now (none_read c.args.types.now c.args.candidates.now r.task.now.output (sym is ∙ sym c.is_open.ensures ∙ shut))

pub new-requires : goal.new-requires
new-requires c =
    let is = c.in_ok-list.ensures ∙ sym (readings_walked c.args.types.now c.args.candidates.now c.output-2.result.now) ∙ ap (readings c.args.types.now c.args.candidates.now) c.output-2.ensures in
    subst (AreWide (length c.args.candidates.now)) (sym is) (are_wide c.args.types.now c.args.candidates.now c.args.self.now.task.now)

pub returns-clause-sifts : goal.returns-clause-sifts
returns-clause-sifts c =
    let r = c.args.self.now in
    let is = c.in_ok-list.ensures ∙ sym (readings_walked c.args.types.now c.args.candidates.now c.output-2.result.now) ∙ ap (readings c.args.types.now c.args.candidates.now) c.output-2.ensures in
    looked_sifts r.task.now r.number (tree r.skeleton.now) c.args.types.now c.args.candidates.now c.new.result (ap (λ (l : Looked). l.readings) c.new.ensures ∙ is) (ap (λ (l : Looked). l.width) c.new.ensures)
