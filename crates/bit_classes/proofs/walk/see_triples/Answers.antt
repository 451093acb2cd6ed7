use Rattle.std.proofs.Common.{◌≡◌, refl, sym, ap, ◌∙◌, ◌+◌, Ok, Err, [], length, drop, arith}
use Rattle.std.proofs.lemmas.List.{take_rest}
use Rattle.std.proofs.lemmas.List.Elements.{All-drop}
use Rattle.std.proofs.lemmas.Result.{err_from_is_err_and}
use Rattle.predicate_core.specs.Counts.{pair_count}
use Rattle.bit_classes.specs.Walk.{Walk, HasWidth, numbered, new_pairs, told_later, told_under, classes_under, told_triples}
use Rattle.bit_classes.proofs.WalkLaws.{way_goes_on, way_ends, way_stops, sees_same}
use Rattle.bit_classes.proofs.SplitLaws.{triples_split, triples_end, HasWidth-read, same_widths, new_pairs_widths, length-new_pairs}
use Rattle.bit_classes.proofs.walk.see_triples.Goals as goal

pub pairs_under-requires : goal.pairs_under-requires
pairs_under-requires g c =
    let rows = c.args.rows.now in
    let width = c.args.found.now.width in
    let row = c.index-rows-i.result in
    let has = HasWidth-read width rows c.loop-i.i row c.index-rows-i.is c.loop-i-test.true c.requires.widths in
    rw (take_rest rows (c.loop-i.i + 1)) (same_widths width row (drop (c.loop-i.i + 1) rows) has (All-drop (HasWidth width) (c.loop-i.i + 1) rows c.requires.widths))

pub see_later-requires-clause-widths : goal.see_later-requires-clause-widths
see_later-requires-clause-widths g c =
    let rows = c.args.rows.now in
    let kept = ap (λ (w : Walk). w.width) c.loop-i.invariant.0.0 in
    rw (take_rest rows (c.loop-i.i + 1), kept) (All-drop (HasWidth c.args.found.now.width) (c.loop-i.i + 1) rows c.requires.widths)

pub see_later-requires-clause-beside : goal.see_later-requires-clause-beside
see_later-requires-clause-beside g c =
    let test = g.S.Sieve.may c.args.sieve.now c.args.join in
    let others = drop (c.loop-i.i + 1) c.args.rows.now in
    let others_is = take_rest c.args.rows.now (c.loop-i.i + 1) in
    let row = c.index-rows-i.result in
    let boths_is : c.as_slice.result.now ≡ new_pairs test c.args.join c.loop-i.pairs.classes row others = c.as_slice.ensures.value ∙ rw others_is at c.in_ok-boths.ensures.told in
    ap length boths_is ∙ length-new_pairs test c.args.join c.loop-i.pairs.classes row others ∙ ap length (sym others_is)

pub see_later-requires-clause-firsts : goal.see_later-requires-clause-firsts
see_later-requires-clause-firsts g c =
    let test = g.S.Sieve.may c.args.sieve.now c.args.join in
    let rows = c.args.rows.now in
    let width = c.args.found.now.width in
    let others = drop (c.loop-i.i + 1) rows in
    let others_is = take_rest rows (c.loop-i.i + 1) in
    let row = c.index-rows-i.result in
    let classes = c.loop-i.pairs.classes in
    let kept = ap (λ (w : Walk). w.width) c.loop-i.invariant.0.0 in
    let boths_is : c.as_slice.result.now ≡ new_pairs test c.args.join classes row others = c.as_slice.ensures.value ∙ rw others_is at c.in_ok-boths.ensures.told in
    let has = HasWidth-read width rows c.loop-i.i row c.index-rows-i.is c.loop-i-test.true c.requires.widths in
    rw (boths_is, kept) (new_pairs_widths test c.args.join width classes row others has (All-drop (HasWidth width) (c.loop-i.i + 1) rows c.requires.widths))

pub loop-i-preserved : goal.loop-i-preserved
loop-i-preserved g c =
    let test = g.S.Sieve.may c.args.sieve.now c.args.join in
    let rows = c.args.rows.now in
    let join = c.args.join in
    let i = c.loop-i.i in
    let row = c.index-rows-i.result in
    let others = drop (i + 1) rows in
    let others_is = take_rest rows (i + 1) in
    let classes = c.loop-i.pairs.classes in
    let after = c.pairs_under.new.pairs.classes in
    let after_is : after ≡ classes_under test join classes row others = rw others_is at c.in_ok-boths.ensures.classes in
    let boths_is : c.as_slice.result.now ≡ new_pairs test join classes row others = c.as_slice.ensures.value ∙ rw others_is at c.in_ok-boths.ensures.told in
    let counted = rw others_is at c.pair_count-next.ensures.count in
    let next = c.loop-i.next + c.pair_count-next.result in
    let split = triples_split test join classes after rows c.loop-i.next next i row c.loop-i-test.true c.index-rows-i.is (ap (λ k. c.loop-i.next + k) counted) after_is in
    let part_is = ap (λ bs. numbered c.loop-i.next (told_later join bs others)) boths_is in
    let seen = sees_same c.loop-i.found c.see_later.new.found (Ok tt) _ _ part_is (rw others_is at c.in_ok-see_later.ensures) in (
      way_goes_on c.args.found.now c.loop-i.found c.see_later.new.found (numbered c.args.number (told_triples test join [] rows)) _ (numbered c.loop-i.next (told_under test join classes row others)) (numbered next (told_triples test join after others)) split c.loop-i.invariant.0 seen,
      omega (arith, c.pair_count-next.ensures.small),
    )

pub returns-in_err-see_later : goal.returns-in_err-see_later
returns-in_err-see_later g c =
    let test = g.S.Sieve.may c.args.sieve.now c.args.join in
    let rows = c.args.rows.now in
    let join = c.args.join in
    let i = c.loop-i.i in
    let row = c.index-rows-i.result in
    let others = drop (i + 1) rows in
    let others_is = take_rest rows (i + 1) in
    let classes = c.loop-i.pairs.classes in
    let after = classes_under test join classes row others in
    let boths_is : c.as_slice.result.now ≡ new_pairs test join classes row others = c.as_slice.ensures.value ∙ rw others_is at c.in_ok-boths.ensures.told in
    let next = c.loop-i.next + pair_count (length others) in
    let split = triples_split test join classes after rows c.loop-i.next next i row c.loop-i-test.true c.index-rows-i.is refl refl in
    let part_is = ap (λ bs. numbered c.loop-i.next (told_later join bs others)) boths_is in
    let end = c.in_err-see_later.field-0.0 in
    let stopped = sees_same c.loop-i.found c.see_later.new.found (Err end) _ _ part_is (rw others_is at c.in_err-see_later.ensures) in
    let p = err_from_is_err_and c.from_residual-in_err-see_later.result c.from_residual-in_err-see_later.ensures.1 in
    rw (p.1, p.2) (way_stops c.args.found.now c.loop-i.found c.see_later.new.found (numbered c.args.number (told_triples test join [] rows)) _ (numbered c.loop-i.next (told_under test join classes row others)) (numbered next (told_triples test join after others)) end split c.loop-i.invariant.0 stopped c.see_later.new.found)

pub returns : goal.returns
returns g c =
    let test = g.S.Sieve.may c.args.sieve.now c.args.join in
    let rows = c.args.rows.now in
    let done = triples_end test c.args.join c.loop-i.pairs.classes rows c.loop-i.next c.loop-i.i c.loop-i-test.false in
    way_ends c.args.found.now c.loop-i.found (numbered c.args.number (told_triples test c.args.join [] rows)) (rw done at c.loop-i.invariant.0)
