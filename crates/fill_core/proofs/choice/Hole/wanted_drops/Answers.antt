use Rattle.std.proofs.Common.{rules, ap, ◌∙◌}
use Rattle.std.specs.Prelude.{filter}
use Rattle.std.proofs.lemmas.Fn.{filter_same}
use Rattle.fill_core.specs.Choices.{drops_some}
use Rattle.fill_core.proofs.choice.Hole.wanted_drops.Goals as goal

pub returns : goal.returns
returns g c = filter_same _ drops_some _ (λ x b f' k. search rules) _ _ c.retain.ensures.filtered ∙ ap (filter drops_some) c.in_ok-list.ensures
