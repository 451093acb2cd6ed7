use Rattle.std.proofs.Common.{◌≡◌, true, false, sym, ap, ◌∙◌, rules}
use Rattle.table_core.specs.declared.column.Column.{Column}
use Rattle.map_walk.specs.Open.{some_serves}
use Rattle.map_walk.proofs.OpenLaws.{open_none, open_more}
use Rattle.map_walk.proofs.open.is_open.Goals as goal

pub returns-then-not-some_serves : goal.returns-then-not-some_serves
returns-then-not-some_serves g c =
    let a = c.args in
    let has = g.C.Candidate.has in
    let none : c.some_serves.result ≡ false = search (rules, c.if-not-some_serves.true) in
    let rows = ap (λ rows. some_serves has a.types.now a.candidates.now rows c.loop-place.place c.index-columns-place.result.kind) c.tuples.ensures.rows in
    let column = ap (λ (col : Column). some_serves has a.types.now a.candidates.now c.tuples.result.now c.loop-place.place col.kind) c.index-columns-place.is in
    open_none has a.types.now a.candidates.now a.output.now c.columns-columns.result.now c.loop-place.place c.index-columns-place.result c.columns-columns.ensures c.loop-place-test.true c.index-columns-place.is c.loop-place.invariant
    (sym rows ∙ column ∙ sym c.some_serves.ensures ∙ none)

pub loop-place-preserved : goal.loop-place-preserved
loop-place-preserved g c =
    let a = c.args in
    let has = g.C.Candidate.has in
    let some : c.some_serves.result ≡ true = search (rules, c.if-not-some_serves.false) in
    let rows = ap (λ rows. some_serves has a.types.now a.candidates.now rows c.loop-place.place c.index-columns-place.result.kind) c.tuples.ensures.rows in
    let column = ap (λ (col : Column). some_serves has a.types.now a.candidates.now c.tuples.result.now c.loop-place.place col.kind) c.index-columns-place.is in
    open_more has a.types.now a.candidates.now a.output.now c.columns-columns.result.now c.loop-place.place c.index-columns-place.result c.columns-columns.ensures c.loop-place-test.true c.index-columns-place.is c.loop-place.invariant
    (sym rows ∙ column ∙ sym c.some_serves.ensures ∙ some)
