-- `order` is a total order, and `same` is equality.
use Rattle.std.proofs.Common.{◌≡◌, refl, sym, ap, subst, ℕ, ℤ, pos, true, List, [], arith, Decides}
use Rattle.std.specs.declared.cmp.Ordering.{Ordering}
use Rattle.std.specs.declared.cmp.Ordering.TheVariants.{Less, Equal, Greater}
use Rattle.std.specs.Ordering.{nat_cmp, int_cmp, is_eq, on, then_cmp, ordering_then}
use Rattle.std.specs.Cmp.{IsTotalOrder}
use Rattle.std.specs.Cmp.Lexicographic.{slice_cmp}
use Rattle.std.specs.FinMap.{slice_cmp-IsAntisymmetric, nat_cmp-IsAntisymmetric, int_cmp-IsAntisymmetric}
use Rattle.std.proofs.lemmas.Cmp.{on_total, then_total, nat_cmp_total, int_cmp_total, nat_list_cmp_total, tied_itself}
use Rattle.value_core.specs.declared.value.Value.{Value}
use Rattle.value_core.specs.declared.value.Value.TheVariants.{Null, Int, Text}
use Rattle.value_core.specs.Value.{order, same}

-- a value's kind, its number and its text, each 0 or empty where there is none
kind : Value → ℕ
kind Null = 0
kind (Int n) = 1
kind (Text s) = 2

number : Value → ℤ
number Null = pos 0
number (Int n) = n
number (Text s) = pos 0

text : Value → List ℕ
text Null = []
text (Int n) = []
text (Text s) = s

by_parts : Value → Value → Ordering
by_parts = then_cmp (on kind nat_cmp) (then_cmp (on number int_cmp) (on text (slice_cmp nat_cmp)))

by_parts_total : IsTotalOrder by_parts
unfolding by_parts
by_parts_total = then_total (on_total kind nat_cmp_total) (then_total (on_total number int_cmp_total) (on_total text nat_list_cmp_total))

then_equal : (o : Ordering) → o ≡ ordering_then o Equal
then_equal Less = refl
then_equal Equal = refl
then_equal Greater = refl

order_by_parts : (a b : Value) → order a b ≡ by_parts a b
unfolding by_parts kind number text
order_by_parts Null Null = refl
order_by_parts Null (Int m) = refl
order_by_parts Null (Text t) = refl
order_by_parts (Int n) Null = refl
order_by_parts (Int n) (Int m) = then_equal (int_cmp n m)
order_by_parts (Int n) (Text t) = refl
order_by_parts (Text s) Null = refl
order_by_parts (Text s) (Int m) = refl
order_by_parts (Text s) (Text t) = refl

-- `order` is a total order
pub order_total : IsTotalOrder order
order_total = let P : (Value → Value → Ordering) → Type 0 = λ r. IsTotalOrder r in subst P (λ i a b. sym (order_by_parts a b) i) by_parts_total

tied : (o : Ordering) → is_eq o ≡ true → o ≡ Equal
tied o e = grind arith

same_means : (a b : Value) → order a b ≡ Equal → a ≡ b
same_means Null Null e = refl
same_means Null (Int m) e = cc
same_means Null (Text t) e = cc
same_means (Int n) Null e = cc
same_means (Int n) (Int m) e = ap Int (int_cmp-IsAntisymmetric n m e)
same_means (Int n) (Text t) e = cc
same_means (Text s) Null e = cc
same_means (Text s) (Int m) e = cc
same_means (Text s) (Text t) e = ap Text (slice_cmp-IsAntisymmetric nat_cmp-IsAntisymmetric s t e)

-- two values are the same exactly where they are equal
pub same_decides : (a b : Value) → Decides (same a b) (a ≡ b)
same_decides a b = (λ e. same_means a b (tied (order a b) e), λ e. rw (← e) (ap is_eq (tied_itself order_total a)))
