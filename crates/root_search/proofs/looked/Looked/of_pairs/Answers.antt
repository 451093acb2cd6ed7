use Rattle.std.proofs.Common.{◌≡◌, ◌+◌, ◌-◌, ◌*◌, arith, map, sym, ap, subst, ◌∙◌}
use Rattle.root_search.specs.Wanted.{Looked, AreWide, paired_reading}
use Rattle.root_search.proofs.PairLaws.{paired_wide}
use Rattle.root_search.proofs.looked.Looked.of_pairs.Goals as goal

pub new-requires : goal.new-requires
new-requires c =
    let width : c.self.inside.width ≡ c.args.lefts * c.args.rights + c.args.lefts = ap (λ (l : Looked). l.width) c.self.view_is ∙ c.requires in
    let left : c.self.inside.width - c.args.lefts ≡ c.args.lefts * c.args.rights = omega (arith, width) in
    let readings : c.in_ok-readings.readings ≡ map (paired_reading c.args.lefts c.args.rights) c.self.inside.readings = c.in_ok-readings.ensures ∙ ap (map (paired_reading c.args.lefts c.args.rights)) c.as_slice.ensures in
    subst (AreWide (c.self.inside.width - c.args.lefts)) (sym readings)
    (subst (λ w. AreWide w (map (paired_reading c.args.lefts c.args.rights) c.self.inside.readings)) (sym left)
    (paired_wide c.args.lefts c.args.rights c.self.inside.readings (subst (λ w. AreWide w c.self.inside.readings) width c.self.invariant)))
