use Rattle.std.proofs.Common.{◌+◌, drop}
use Rattle.std.proofs.lemmas.List.{at_drop_more}
use Rattle.predicate_core.specs.Atoms.{columns_compared}
use Rattle.predicate_core.proofs.SearchLaws.{turn}
use Rattle.predicate_core.proofs.search.pass_columns_compared.Goals as goal

pub loop-i-preserved : goal.loop-i-preserved
loop-i-preserved c =
    let types = c.args.types.now in
    let i = c.loop-i.i in
    let split = at_drop_more (columns_compared i) types i _ c.loop-i-test.true in
    turn c.loop-i.search c.pass_later_columns-search.result _ (columns_compared i (drop i types)) _ (columns_compared (i + 1) (drop (i + 1) types)) split c.pass_later_columns-search.ensures c.loop-i.invariant.0 c.loop-i.invariant.1
