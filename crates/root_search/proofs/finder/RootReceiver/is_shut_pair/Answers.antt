use Rattle.std.proofs.Common.{◌≡◌, Bool, length, true, false, sym, ap, ◌∙◌, rules}
use Rattle.query_core.specs.View.{tree}
use Rattle.table_core.specs.Rows.{TableData, types_of}
use Rattle.map_walk.specs.Readings.{row_has}
use Rattle.map_walk.specs.Supply.{supplies_by, pair_supplies, opens}
use Rattle.root_search.proofs.ShutLaws.{shut_pair}
use Rattle.root_search.proofs.finder.RootReceiver.is_shut_pair.Goals as goal

pub returns : goal.returns
returns c is =
    let r = c.args.self.now in
    let s = c.args.seen.now in
    let wide : c.are_wide.result ≡ true = search (rules, c.if-not-are_wide.false) in
    let shut : c.standing_pair_opens.result ≡ false = search (rules, is) in
    let told : TableData → Bool = λ out. opens s.types.now (pair_supplies s.kind (supplies_by row_has (length s.left.now) s.lefts.now out) (supplies_by row_has (length s.right.now) s.rights.now out)) (types_of out) in
    shut_pair r.task.now r.number (tree r.skeleton.now) s.types.now s.kind (length s.right.now) (length s.left.now) (length s.right.now) s.lefts.now s.rights.now (sym c.are_wide.ensures ∙ wide)
    (ap told (sym c.output.ensures) ∙ sym c.standing_pair_opens.ensures ∙ shut)
