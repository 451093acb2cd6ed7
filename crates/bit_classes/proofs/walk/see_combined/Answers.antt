use Rattle.std.proofs.Common.{sym, ◌+◌, Option, Some, [], ◌∷◌, List, Bool, map, drop}
use Rattle.std.proofs.lemmas.Result.{err_from_is_err_and}
use Rattle.bit_classes.specs.Walk.{numbered, combined_told}
use Rattle.bit_classes.proofs.WalkLaws.{way_goes_on, way_ends, way_stops}
use Rattle.bit_classes.proofs.SplitLaws.{mapped_split, mapped_end, same_width, HasWidth-read, add_more}
use Rattle.bit_classes.proofs.walk.see_combined.Goals as goal

pub see_both-requires-clause-widths : goal.see_both-requires-clause-widths
see_both-requires-clause-widths c =
    let other = c.index-others-i.result in
    same_width c.args.found.now.width c.args.row.now other c.requires.width (HasWidth-read c.args.found.now.width c.args.others.now c.loop-i.i other c.index-others-i.is c.loop-i-test.true c.requires.widths)

pub loop-i-preserved : goal.loop-i-preserved
loop-i-preserved c =
    let others = c.args.others.now in
    let f : Option (List Bool) → Option (List Bool) = combined_told c.args.join (Some c.args.row.now) in
    let n = c.args.number in
    let i = c.loop-i.i in
    let split = mapped_split f others (n + i) (n + (i + 1)) i c.index-others-i.result c.loop-i-test.true c.index-others-i.is (sym (add_more n i)) in
    let part = numbered (n + i) (f c.index-others-i.result ∷ []) in
    let rest = numbered (n + (i + 1)) (map f (drop (i + 1) others)) in (
      way_goes_on c.args.found.now c.loop-i.found c.see_both.new.found (numbered n (map f others)) _ part rest split c.loop-i.invariant.0 c.in_ok-see_both.ensures.sees,
      c.in_ok-see_both.ensures.width,
    )

pub returns-in_err-see_both : goal.returns-in_err-see_both
returns-in_err-see_both c =
    let others = c.args.others.now in
    let f : Option (List Bool) → Option (List Bool) = combined_told c.args.join (Some c.args.row.now) in
    let n = c.args.number in
    let i = c.loop-i.i in
    let split = mapped_split f others (n + i) (n + (i + 1)) i c.index-others-i.result c.loop-i-test.true c.index-others-i.is (sym (add_more n i)) in
    let part = numbered (n + i) (f c.index-others-i.result ∷ []) in
    let rest = numbered (n + (i + 1)) (map f (drop (i + 1) others)) in
    let p = err_from_is_err_and c.from_residual-in_err-see_both.result c.from_residual-in_err-see_both.ensures.1 in
    rw (p.1, p.2) (way_stops c.args.found.now c.loop-i.found c.see_both.new.found (numbered n (map f others)) _ part rest c.in_err-see_both.field-0.0 split c.loop-i.invariant.0 c.in_err-see_both.ensures.sees c.see_both.new.found)

pub returns : goal.returns
returns c =
    let others = c.args.others.now in
    let f : Option (List Bool) → Option (List Bool) = combined_told c.args.join (Some c.args.row.now) in
    let n = c.args.number in
    let i = c.loop-i.i in
    let done = mapped_end f others (n + i) i c.loop-i-test.false in
    way_ends c.args.found.now c.loop-i.found (numbered n (map f others)) (rw done at c.loop-i.invariant.0)
