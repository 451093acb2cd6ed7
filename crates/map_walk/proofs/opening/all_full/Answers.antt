use Rattle.std.proofs.Common.{◌≡◌, true, false, sym, ap, ◌∙◌, rules}
use Rattle.table_core.specs.declared.column.Column.{Column}
use Rattle.map_walk.specs.Supply.{some_full}
use Rattle.map_walk.proofs.SupplyLaws.{full_step}
use Rattle.map_walk.proofs.opening.all_full.Goals as goal

pub returns-then-not-some_full : goal.returns-then-not-some_full
returns-then-not-some_full g c =
    let a = c.args in
    let listed = g.S.Source.listed a.source.now in
    let none : c.some_full.result ≡ false = search (rules, c.if-not-some_full.true) in
    let column = ap (λ (col : Column). some_full a.types.now listed c.loop-place.place col.kind) c.index-columns-place.is in
    full_step a.types.now listed a.output.now c.columns-columns.result.now c.loop-place.place c.index-columns-place.result false c.columns-columns.ensures c.loop-place-test.true c.index-columns-place.is c.loop-place.invariant
    (column ∙ sym c.some_full.ensures ∙ none)

pub loop-place-preserved : goal.loop-place-preserved
loop-place-preserved g c =
    let a = c.args in
    let listed = g.S.Source.listed a.source.now in
    let some : c.some_full.result ≡ true = search (rules, c.if-not-some_full.false) in
    let column = ap (λ (col : Column). some_full a.types.now listed c.loop-place.place col.kind) c.index-columns-place.is in
    full_step a.types.now listed a.output.now c.columns-columns.result.now c.loop-place.place c.index-columns-place.result true c.columns-columns.ensures c.loop-place-test.true c.index-columns-place.is c.loop-place.invariant
    (column ∙ sym c.some_full.ensures ∙ some)
