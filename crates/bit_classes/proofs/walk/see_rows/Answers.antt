use Rattle.std.proofs.Common.{sym, ap, ◌∙◌, ◌+◌, [], ◌∷◌, ◌++◌, if◌then◌else◌, Some, None, drop}
use Rattle.std.specs.List.{enumerate_from}
use Rattle.std.proofs.lemmas.List.{append_assoc, append-nil}
use Rattle.std.proofs.lemmas.Result.{err_from_is_err_and}
use Rattle.bit_classes.specs.Walk.{Walk, is_known, new_vectors}
use Rattle.bit_classes.proofs.WalkLaws.{way_goes_on, way_ends, way_stops}
use Rattle.bit_classes.proofs.SplitLaws.{numbered_split, numbered_end, new_split, new_end}
use Rattle.bit_classes.proofs.walk.see_rows.Goals as goal

pub loop-i-preserved : goal.loop-i-preserved
loop-i-preserved c =
    let rows = c.args.rows.now in
    let n = c.args.number in
    let i = c.loop-i.i in
    let row = c.index-rows-i.result in
    let rest = drop (i + 1) rows in
    let split = numbered_split rows n i row c.loop-i-test.true c.index-rows-i.is in
    let told = if is_known c.loop-i.found.classes row then None else Some row in
    let classes = ap (λ (w : Walk). w.classes) c.in_ok-see_new.ensures.sees in
    let next = new_split c.loop-i.found.classes c.see_new.new.found.classes rows n i row c.loop-i-test.true c.index-rows-i.is classes in
    let noted = ap (λ ns. ns ++ new_vectors c.see_new.new.found.classes (n + (i + 1)) rest) c.in_ok-see_new.ensures.notes in (
      way_goes_on c.args.found.now c.loop-i.found c.see_new.new.found (enumerate_from n rows) _ ((n + i, row) ∷ []) (enumerate_from (n + (i + 1)) rest) split c.loop-i.invariant.0 c.in_ok-see_new.ensures.sees,
      noted ∙ append_assoc c.loop-i.news.items (told ∷ []) (new_vectors c.see_new.new.found.classes (n + (i + 1)) rest) ∙ ap (λ us. c.loop-i.news.items ++ us) (sym next) ∙ c.loop-i.invariant.1,
    )

pub returns-in_err-see_new-clause-sees : goal.returns-in_err-see_new-clause-sees
returns-in_err-see_new-clause-sees c =
    let rows = c.args.rows.now in
    let n = c.args.number in
    let i = c.loop-i.i in
    let row = c.index-rows-i.result in
    let split = numbered_split rows n i row c.loop-i-test.true c.index-rows-i.is in
    let p = err_from_is_err_and c.from_residual.result c.from_residual.ensures.1 in
    rw (p.1, p.2) (way_stops c.args.found.now c.loop-i.found c.see_new.new.found (enumerate_from n rows) _ ((n + i, row) ∷ []) (enumerate_from (n + (i + 1)) (drop (i + 1) rows)) c.in_err-see_new.field-0.0 split c.loop-i.invariant.0 c.in_err-see_new.ensures.sees c.see_new.new.found)

pub returns : goal.returns
returns c =
    let rows = c.args.rows.now in
    let n = c.args.number in
    let i = c.loop-i.i in
    let done = numbered_end rows (n + i) i c.loop-i-test.false in
    let noted = new_end c.loop-i.found.classes rows (n + i) i c.loop-i-test.false in
    record {
      sees = way_ends c.args.found.now c.loop-i.found (enumerate_from n rows) (rw done at c.loop-i.invariant.0);
      notes = sym (append-nil c.loop-i.news.items) ∙ ap (λ us. c.loop-i.news.items ++ us) (sym noted) ∙ c.loop-i.invariant.1;
    }
