use Rattle.std.proofs.Common.{◌≡◌, sym, ap, ◌∙◌, ◌+◌, ◌*◌, ◌<◌, length, true, false, rules, arith}
use Rattle.map_walk.specs.Targets.{are_enough}
use Rattle.map_walk.specs.Narrow.{narrowed}
use Rattle.map_walk.proofs.WalkLaws.{fits_parts, fits_next, none_goes_on}
use Rattle.map_walk.proofs.walk.+goes_on.Goals as goal

pub goes_on-some_goes_on-requires : goal.goes_on-some_goes_on-requires
goes_on-some_goes_on-requires t c =
    let falls : 3 * length c.in-Some.rest.now + 2 < t = omega (arith, c.decreases, c.in-Some.ensures.cases.1) in
    let fits = fits_parts c.args.targets.now c.args.columns.now c.in-Some.offers.now c.as_slice.result.now c.in-Some.rest.now c.requires.fits c.in-Some.ensures.cases.0 c.as_slice.ensures in
    (falls, (fits.0, fits.1))

pub goes_on_by-returns-then-not-stay_enough : goal.goes_on_by-returns-then-not-stay_enough
goes_on_by-returns-then-not-stay_enough t c =
    let few : c.stay_enough.result ≡ false = search rules in
    sym (none_goes_on c.args.targets.now c.args.offer.now c.args.rest.now c.as_slice.result.now c.as_slice.ensures c.requires.offer c.requires.rest (sym c.stay_enough.ensures ∙ few))

pub goes_on_by-goes_on-requires : goal.goes_on_by-goes_on-requires
goes_on_by-goes_on-requires t c =
    let ts = c.args.targets.now in
    let falls : 3 * length c.args.rest.now < t = omega (arith, c.decreases) in
    let left : c.as_slice-3.result.now ≡ narrowed ts c.args.offer.now.masks = c.as_slice-3.ensures ∙ c.in_ok-left.ensures ∙ ap (narrowed ts) c.as_slice-2.ensures in
    let enough : c.stay_enough.result ≡ true = search rules in
    (falls, (fits_next ts c.as_slice-3.result.now c.args.offer.now.masks c.args.rest.now c.requires.offer c.requires.rest left, ap are_enough (left ∙ ap (narrowed ts) (sym c.as_slice.ensures)) ∙ sym c.stay_enough.ensures ∙ enough))
