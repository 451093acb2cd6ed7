use Rattle.std.proofs.Common.{◌+◌, ◌∷◌, [], drop, arith}
use Rattle.std.proofs.lemmas.List.{at_drop_more}
use Rattle.value_core.specs.declared.value.ColType.TheVariants.{Int}
use Rattle.predicate_core.specs.declared.atom.Atom.TheVariants.{IsNull, NotNull}
use Rattle.predicate_core.specs.Atoms.{null_tests}
use Rattle.predicate_core.proofs.SearchLaws.{turn}
use Rattle.predicate_core.proofs.search.pass_null_tests.Goals as goal

pub pass_null_test-search-requires : goal.pass_null_test-search-requires
pass_null_test-search-requires c =
    let split = at_drop_more (null_tests c.loop-i.i) c.args.types.now c.loop-i.i Int c.loop-i-test.true in
    let few = rw split at c.loop-i.invariant.1 in
    record { few = omega arith }

pub loop-i-preserved : goal.loop-i-preserved
loop-i-preserved c =
    let types = c.args.types.now in
    let i = c.loop-i.i in
    let split = at_drop_more (null_tests i) types i Int c.loop-i-test.true in
    turn c.loop-i.search c.pass_null_test-search.result _ (null_tests i (drop i types)) (IsNull i ∷ NotNull i ∷ []) (null_tests (i + 1) (drop (i + 1) types)) split c.pass_null_test-search.ensures c.loop-i.invariant.0 c.loop-i.invariant.1
