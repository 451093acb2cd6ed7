use Rattle.std.proofs.Common.{◌≡◌, Bool, length, false, sym, ap, ◌∙◌, rules}
use Rattle.query_core.specs.View.{tree}
use Rattle.table_core.specs.Rows.{TableData, types_of}
use Rattle.map_walk.specs.Readings.{row_has}
use Rattle.map_walk.specs.Supply.{group_supplies, opens}
use Rattle.map_walk.specs.Wholes.{wholes_by}
use Rattle.root_search.proofs.WholeLaws.{shut_whole}
use Rattle.root_search.proofs.finder.RootReceiver.is_shut_group.Goals as goal

pub returns : goal.returns
returns c is =
    let r = c.args.self.now in
    let s = c.args.seen.now in
    let shut : c.standing_group_opens.result ≡ false = search (rules, is) in
    let told : TableData → Bool = λ out. opens s.types.now (group_supplies s.keys.now (wholes_by row_has (length s.child.now) s.rows.now out)) (types_of out) in
    shut_whole r.task.now r.number (tree r.skeleton.now) s.types.now s.keys.now (length s.child.now) s.rows.now (ap told (sym c.output.ensures) ∙ sym c.standing_group_opens.ensures ∙ shut)
