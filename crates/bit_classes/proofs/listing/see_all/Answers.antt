use Rattle.std.proofs.Common.{◌≡◌, ap, ◌∙◌, ◌+◌, true, [], ◌∷◌, ◌++◌, replicate, length, Ok, Err, arith}
use Rattle.std.specs.List.{enumerate_from}
use Rattle.std.proofs.lemmas.Result.{err_from_is_err_and}
use Rattle.bit_classes.specs.Walk.{Walk, with_vector, numbered, new_vectors, told_more, only_full}
use Rattle.bit_classes.proofs.WalkLaws.{sees_same, sees_then, sees_stopped}
use Rattle.bit_classes.proofs.ToldLaws.{news_widths, news_length}
use Rattle.bit_classes.proofs.listing.see_all.Goals as goal

pub returns-in_err-see : goal.returns-in_err-see
returns-in_err-see g c =
    let found = c.args.found.now in
    let rows = c.args.rows.now in
    let more = told_more (g.S.Sieve.may c.args.sieve.now) (new_vectors (only_full found.width) 1 rows) c.args.bound in
    let rest = enumerate_from 1 rows ++ numbered (1 + length rows) more in
    let full_is : c.in_ok-full.full ≡ replicate found.width true = c.in_ok-full.ensures ∙ ap (λ w. replicate w true) c.width.ensures in
    let end = c.in_err-see.field-0.0 in
    let first = sees_same found c.see.new.self (Err end) _ _ (ap (λ v. (0, v) ∷ []) full_is) c.in_err-see.ensures in
    let p = err_from_is_err_and c.from_residual-in_err-see.result c.from_residual-in_err-see.ensures.1 in
    rw (p.1, p.2) (sees_stopped found c.see.new.self c.see.new.self ((0, replicate found.width true) ∷ []) rest end first)

pub returns-in_err-see_rows : goal.returns-in_err-see_rows
returns-in_err-see_rows g c =
    let found = c.args.found.now in
    let rows = c.args.rows.now in
    let more = told_more (g.S.Sieve.may c.args.sieve.now) (new_vectors (only_full found.width) 1 rows) c.args.bound in
    let full_is : c.in_ok-full.full ≡ replicate found.width true = c.in_ok-full.ensures ∙ ap (λ w. replicate w true) c.width.ensures in
    let end = c.in_err-see_rows.field-0.0 in
    let first = sees_same found c.see.new.self (Ok tt) _ _ (ap (λ v. (0, v) ∷ []) full_is) c.in_ok-see.ensures in
    let second = sees_stopped c.see.new.self c.see_rows.new.found c.see_rows.new.found (enumerate_from 1 rows) (numbered (1 + length rows) more) end c.in_err-see_rows.ensures.sees in
    let p = err_from_is_err_and c.from_residual-in_err-see_rows.result c.from_residual-in_err-see_rows.ensures.1 in
    rw (p.1, p.2) (sees_then found c.see.new.self c.see_rows.new.found ((0, replicate found.width true) ∷ []) (enumerate_from 1 rows ++ numbered (1 + length rows) more) (Err end) first second)

pub see_more-requires-clause-widths : goal.see_more-requires-clause-widths
see_more-requires-clause-widths g c =
    let found = c.args.found.now in
    let rows = c.args.rows.now in
    let classes = c.see.new.self.classes in
    let are : c.as_slice.result.now ≡ new_vectors classes 1 rows = c.as_slice.ensures.value ∙ c.in_ok-see_rows.ensures.notes ∙ ap (λ ns. ns ++ new_vectors classes 1 rows) c.new-news.ensures.items in
    let kept : c.see_rows.new.found.width ≡ found.width = ap (λ (w : Walk). w.width) c.in_ok-see_rows.ensures.sees ∙ ap (λ (w : Walk). w.width) c.in_ok-see.ensures in
    rw kept (news_widths found.width classes rows c.as_slice.result.now are c.requires.widths)

pub see_more-requires-clause-few : goal.see_more-requires-clause-few
see_more-requires-clause-few g c =
    let rows = c.args.rows.now in
    let classes = c.see.new.self.classes in
    let are : c.as_slice.result.now ≡ new_vectors classes 1 rows = c.as_slice.ensures.value ∙ c.in_ok-see_rows.ensures.notes ∙ ap (λ ns. ns ++ new_vectors classes 1 rows) c.new-news.ensures.items in
    omega (arith, news_length classes rows c.as_slice.result.now are, c.requires.few)

pub returns : goal.returns
returns g c =
    let may = g.S.Sieve.may c.args.sieve.now in
    let found = c.args.found.now in
    let rows = c.args.rows.now in
    let full = replicate found.width true in
    let news = new_vectors (only_full found.width) 1 rows in
    let full_is : c.in_ok-full.full ≡ full = c.in_ok-full.ensures ∙ ap (λ w. replicate w true) c.width.ensures in
    let first = sees_same found c.see.new.self (Ok tt) _ _ (ap (λ v. (0, v) ∷ []) full_is) c.in_ok-see.ensures in
    let classes = c.see.new.self.classes in
    let begun : classes ≡ only_full found.width = ap (λ (w : Walk). w.classes) first ∙ ap (λ cs. with_vector cs (0, full)) c.requires.empty in
    let are : c.as_slice.result.now ≡ news = c.as_slice.ensures.value ∙ c.in_ok-see_rows.ensures.notes ∙ ap (λ ns. ns ++ new_vectors classes 1 rows) c.new-news.ensures.items ∙ ap (λ cs. new_vectors cs 1 rows) begun in
    let more_is = ap (λ us. numbered (1 + length rows) (told_more may us c.args.bound)) are in
    let last = sees_same c.see_rows.new.found c.see_more.new.found c.see_more.result _ _ more_is c.see_more.ensures in
    let more = numbered (1 + length rows) (told_more may news c.args.bound) in
    let second = sees_then c.see.new.self c.see_rows.new.found c.see_more.new.found (enumerate_from 1 rows) more c.see_more.result c.in_ok-see_rows.ensures.sees last in
    sees_then found c.see.new.self c.see_more.new.found ((0, full) ∷ []) (enumerate_from 1 rows ++ more) c.see_more.result first second
