use Rattle.std.proofs.Common.{◌≡◌, ℕ, zero, suc, ◌+◌, ◌<◌, List, [], ◌∷◌, length, drop, refl, add-one, arith}
use Rattle.std.proofs.lemmas.Grind.{common_steps}
use Rattle.value_core.specs.declared.value.ColType.{ColType}
use Rattle.predicate_core.specs.declared.atom.Atom.TheVariants.{IsNull, NotNull}
use Rattle.predicate_core.specs.Atoms.{null_tests}
use Rattle.predicate_core.proofs.listing.push_null_tests.Goals as goal

-- the next column's tests come first
null_tests-next : (types : List ColType) (i k : ℕ) → i < length types → null_tests k (drop i types) ≡ IsNull k ∷ NotNull k ∷ null_tests (k + 1) (drop (suc i) types)
null_tests-next [] i k below = absurd (omega arith)
null_tests-next (t ∷ ts) zero k below = refl
null_tests-next (t ∷ ts) (suc i) k below = null_tests-next ts i k (omega arith)

pub loop-i-preserved : goal.loop-i-preserved
loop-i-preserved c =
    let next = null_tests-next c.args.types.now c.loop-i.i c.loop-i.i (omega arith) in
    grind (arith, common_steps, add-one)
