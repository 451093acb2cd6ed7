-- A predicate keeps what its atoms keep.
use Rattle.std.proofs.Common.{◌≡◌, refl, ap, ◌∙◌, ◌&&◌, ◌||◌, List}
use Rattle.value_core.specs.declared.value.Value.{Value}
use Rattle.value_core.specs.declared.comparison.Truth.{Truth}
use Rattle.value_core.specs.declared.comparison.Truth.TheVariants.{Yes, No, Unknown}
use Rattle.predicate_core.specs.declared.atom.Atom.{Atom}
use Rattle.predicate_core.specs.Truth.{both, either, is_yes, atom_truth}
use Rattle.predicate_core.specs.Laws.{KeepsByAtoms}

yes_both : (a b : Truth) → is_yes (both a b) ≡ (is_yes a && is_yes b)
yes_both Yes b = refl
yes_both No b = refl
yes_both Unknown Yes = refl
yes_both Unknown No = refl
yes_both Unknown Unknown = refl

yes_either : (a b : Truth) → is_yes (either a b) ≡ (is_yes a || is_yes b)
yes_either Yes b = refl
yes_either No b = refl
yes_either Unknown Yes = refl
yes_either Unknown No = refl
yes_either Unknown Unknown = refl

-- an AND keeps a row exactly where each of its atoms does, an OR where one of them does, and Always keeps each
pub keeps_by_atoms : (constants row : List Value) (a b c : Atom) → KeepsByAtoms constants row a b c
keeps_by_atoms constants row a b c =
    let of : Atom → Truth = atom_truth constants row in (
      refl,
      yes_both (of a) (of b),
      yes_either (of a) (of b),
      yes_both (of a) (both (of b) (of c)) ∙ ap (λ t. is_yes (of a) && t) (yes_both (of b) (of c)),
      yes_either (of a) (either (of b) (of c)) ∙ ap (λ t. is_yes (of a) || t) (yes_either (of b) (of c)),
    )
