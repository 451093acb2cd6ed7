use Rattle.std.proofs.Common.{map, not, string_bytes, rules, tests}
use Rattle.std.proofs.lemmas.Iterator.Consumers.{YieldsList-from_rest}
use Rattle.std.proofs.lemmas.Iterator.Search.{find_from_yields_List}
use Rattle.std.specs.Map.{keys_of}
use Rattle.toml_keys.specs.Keys.{is_among}
use Rattle.toml_keys.proofs.Least.{least_from_found}
use Rattle.toml_keys.proofs.keys.least_unknown.Goals as goal

pub returns : goal.returns
returns c =
    let entries = c.args.table.now.entries in
    let allowed = map (λ name. name.now) c.args.allowed.now in
    least_from_found allowed entries c.find.result c.keys.ensures.ordered
    (find_from_yields_List (λ key. not (is_among allowed (string_bytes key))) _ _ c.find.result c.find.ensures.ran (YieldsList-from_rest (keys_of entries) c.keys.ensures.rest) (λ x b q k. search (rules, tests)))
