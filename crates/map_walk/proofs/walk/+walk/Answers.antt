use Rattle.std.proofs.Common.{◌≡◌, sym, ap, ◌∙◌, ◌++◌, ◌+◌, ◌*◌, ◌<◌, length, true, false, rules, arith}
use Rattle.std.proofs.lemmas.List.{append-nil}
use Rattle.map_walk.specs.declared.target.Reading.{Reading}
use Rattle.map_walk.specs.Targets.{are_enough}
use Rattle.map_walk.specs.Narrow.{narrowed}
use Rattle.map_walk.proofs.WalkLaws.{fits_parts, fits_next, none_walked}
use Rattle.map_walk.proofs.walk.+walk.Goals as goal

pub walk-walk_each-requires : goal.walk-walk_each-requires
walk-walk_each-requires t c =
    let falls : 3 * length c.in-Some.rest.now + 2 < t = omega (arith, c.decreases, c.in-Some.ensures.cases.1) in
    let fits = fits_parts c.args.begun.targets c.args.columns.now c.in-Some.offers.now c.as_slice.result.now c.in-Some.rest.now c.requires.fits c.in-Some.ensures.cases.0 c.as_slice.ensures in
    (falls, (fits.0, fits.1))

pub walk_on-returns-then-not-stay_enough : goal.walk_on-returns-then-not-stay_enough
walk_on-returns-then-not-stay_enough t c =
    let few : c.stay_enough.result ≡ false = search rules in
    let none = none_walked c.args.begun.now c.args.offer.now c.args.rest.now c.as_slice.result.now c.as_slice-2.result.now c.as_slice.ensures c.as_slice-2.ensures c.requires.offer c.requires.rest (sym c.stay_enough.ensures ∙ few) in
    sym (ap (λ rs. c.args.out.now ++ rs) none ∙ append-nil c.args.out.now)

pub walk_on-walk-requires : goal.walk_on-walk-requires
walk_on-walk-requires t c =
    let b = c.args.begun.now in
    let falls : 3 * length c.args.rest.now < t = omega (arith, c.decreases) in
    let left : c.in_ok-next.next.targets ≡ narrowed b.targets c.args.offer.now.masks = ap (λ (r : Reading). r.targets) c.in_ok-next.ensures in
    let kept : narrowed c.as_slice.result.now c.as_slice-2.result.now ≡ c.in_ok-next.next.targets =
    ap (λ ts. narrowed ts c.as_slice-2.result.now) c.as_slice.ensures ∙ ap (narrowed b.targets) c.as_slice-2.ensures ∙ sym left in
    let enough : c.stay_enough.result ≡ true = search rules in
    (falls, (fits_next b.targets c.in_ok-next.next.targets c.args.offer.now.masks c.args.rest.now c.requires.offer c.requires.rest left, ap are_enough (sym kept) ∙ sym c.stay_enough.ensures ∙ enough))
