use Rattle.std.proofs.Common.{refl, ap, ◌+◌, ◌-◌, length, map, drop, take, arith}
use Rattle.std.proofs.lemmas.List.{take_rest, length-drop}
use Rattle.std.proofs.lemmas.List.Elements.{All-drop}
use Rattle.std.proofs.lemmas.Result.{err_from_is_err_and}
use Rattle.bit_classes.specs.Walk.{Walk, HasWidth, numbered, combined_told, told_later}
use Rattle.bit_classes.proofs.WalkLaws.{way_goes_on, way_ends, way_stops}
use Rattle.bit_classes.proofs.SplitLaws.{later_split, later_end, HasWidth-read}
use Rattle.bit_classes.proofs.walk.see_later.Goals as goal

pub see_told-requires-clause-width : goal.see_told-requires-clause-width
see_told-requires-clause-width c =
    let kept = ap (λ (w : Walk). w.width) c.loop-i.invariant.0.0 in
    let first = c.index-firsts-i.result in
    rw kept (HasWidth-read c.args.found.now.width c.args.firsts.now c.loop-i.i first c.index-firsts-i.is (omega (arith, c.loop-i-test.true, c.requires.beside)) c.requires.firsts)

pub see_told-requires-clause-widths : goal.see_told-requires-clause-widths
see_told-requires-clause-widths c =
    let rows = c.args.rows.now in
    let kept = ap (λ (w : Walk). w.width) c.loop-i.invariant.0.0 in
    rw (take_rest rows (c.loop-i.i + 1), kept) (All-drop (HasWidth c.args.found.now.width) (c.loop-i.i + 1) rows c.requires.widths)

pub loop-i-preserved : goal.loop-i-preserved
loop-i-preserved c =
    let rows = c.args.rows.now in
    let firsts = c.args.firsts.now in
    let join = c.args.join in
    let i = c.loop-i.i in
    let first = c.index-firsts-i.result in
    let others = drop (i + 1) rows in
    let others_is = take_rest rows (i + 1) in
    let next = c.loop-i.next + length (take (length rows - (i + 1)) (drop (i + 1) rows)) in
    let split = later_split join firsts rows c.loop-i.next next i first (omega (arith, c.loop-i-test.true, c.requires.beside)) c.loop-i-test.true c.index-firsts-i.is (ap (λ ys. c.loop-i.next + length ys) others_is) in
    let seen = rw others_is at c.in_ok-see_told.ensures in (
      way_goes_on c.args.found.now c.loop-i.found c.see_told.new.found (numbered c.args.number (told_later join firsts rows)) _ (numbered c.loop-i.next (map (combined_told join first) others)) (numbered next (told_later join (drop (i + 1) firsts) others)) split c.loop-i.invariant.0 seen,
      omega (arith, ap length others_is, length-drop (i + 1) rows),
    )

pub returns-in_err-see_told : goal.returns-in_err-see_told
returns-in_err-see_told c =
    let rows = c.args.rows.now in
    let firsts = c.args.firsts.now in
    let join = c.args.join in
    let i = c.loop-i.i in
    let first = c.index-firsts-i.result in
    let others = drop (i + 1) rows in
    let others_is = take_rest rows (i + 1) in
    let next = c.loop-i.next + length others in
    let split = later_split join firsts rows c.loop-i.next next i first (omega (arith, c.loop-i-test.true, c.requires.beside)) c.loop-i-test.true c.index-firsts-i.is refl in
    let stopped = rw others_is at c.in_err-see_told.ensures in
    let p = err_from_is_err_and c.from_residual.result c.from_residual.ensures.1 in
    rw (p.1, p.2) (way_stops c.args.found.now c.loop-i.found c.see_told.new.found (numbered c.args.number (told_later join firsts rows)) _ (numbered c.loop-i.next (map (combined_told join first) others)) (numbered next (told_later join (drop (i + 1) firsts) others)) c.in_err-see_told.field-0.0 split c.loop-i.invariant.0 stopped c.see_told.new.found)

pub returns : goal.returns
returns c =
    let rows = c.args.rows.now in
    let firsts = c.args.firsts.now in
    let done = later_end c.args.join firsts rows c.loop-i.next c.loop-i.i c.loop-i-test.false in
    way_ends c.args.found.now c.loop-i.found (numbered c.args.number (told_later c.args.join firsts rows)) (rw done at c.loop-i.invariant.0)
