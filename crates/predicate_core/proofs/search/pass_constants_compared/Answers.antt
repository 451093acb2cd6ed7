use Rattle.std.proofs.Common.{◌+◌, drop}
use Rattle.std.proofs.lemmas.List.{at_drop_more}
use Rattle.predicate_core.specs.Atoms.{constants_compared}
use Rattle.predicate_core.proofs.SearchLaws.{turn}
use Rattle.predicate_core.proofs.search.pass_constants_compared.Goals as goal

pub loop-i-preserved : goal.loop-i-preserved
loop-i-preserved c =
    let types = c.args.types.now in
    let constants = c.args.constants.now in
    let i = c.loop-i.i in
    let split = at_drop_more (constants_compared i constants) types i _ c.loop-i-test.true in
    turn c.loop-i.search c.pass_constants-search.result _ (constants_compared i constants (drop i types)) _ (constants_compared (i + 1) constants (drop (i + 1) types)) split c.pass_constants-search.ensures c.loop-i.invariant.0 c.loop-i.invariant.1
