use Rattle.std.proofs.Common.{bytes_eq, rules, tests, ◌∙◌}
use Rattle.std.proofs.lemmas.Iterator.{YieldsList-from_slice}
use Rattle.std.proofs.lemmas.Iterator.Search.{any_from_yields_List}
use Rattle.toml_keys.proofs.Lists.{list_any_of_names}
use Rattle.toml_keys.proofs.keys.is_among.Goals as goal

pub returns : goal.returns
returns c =
    let key = c.args.key.now in
    let names = c.args.allowed.now in
    any_from_yields_List (λ name. bytes_eq key name.now) _ _ c.any.result c.any.ensures.ran (YieldsList-from_slice names cc) (λ x b q k. search (rules, tests))
    ∙ list_any_of_names (bytes_eq key) names
