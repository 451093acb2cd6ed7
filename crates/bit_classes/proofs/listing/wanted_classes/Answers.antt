use Rattle.std.proofs.Common.{ap, ◌∙◌, filter}
use Rattle.bit_classes.specs.Sieves.{is_wanted}
use Rattle.bit_classes.proofs.WholeLaws.{wanted_same, told_classes}
use Rattle.bit_classes.proofs.listing.wanted_classes.Goals as goal

pub returns : goal.returns
returns g c =
    let may = g.S.Sieve.may c.args.sieve.now in
    let rows = c.args.atoms.now in
    let found = told_classes may c.args.width _ c.args.bound rows c.new-found.result c.see_all.new.found c.new-found.ensures c.in-Ok.ensures in
    c.sift.ensures ∙ ap (filter (is_wanted may)) (c.in-Ok-into_classes.ensures.classes ∙ found) ∙ wanted_same may c.args.width rows c.args.bound c.requires.sieve c.requires.widths
