-- What `parse` answers for a numeral, with a `-` before it or without.
use Rattle.std.proofs.Common.{◌≡◌, refl, ℕ, ℤ, pos, neg_ℤ, ◌+◌, ◌^◌, ◌<◌, ◌≤◌, Bool, true, cond, ◌&&◌, nat_lt, List, [], ◌∷◌, length, drop, get_or, Some, None, option_map, Result, Ok, Err, w64, arith, zero, suc, sym, ◌∙◌, ap}
use Rattle.std.specs.List.{list_all}
use Rattle.std.specs.Char.{is_ascii_digit}
use Rattle.std.specs.Str.{all_ascii_digits, IsUtf8}
use Rattle.std.specs.Str.Parse.{digits_value, ParsesSigned}
use Rattle.std.specs.Result.{result_ok, OkIff}
use Rattle.std.proofs.lemmas.Str.{IsUtf8-from_ascii}
use Rattle.std.proofs.lemmas.Str.Parse.{IsNumeralModel, numerals_by_value, tells_all_ascii_digits, parse_signed_digits, parse_signed_minus}
use Rattle.std.proofs.lemmas.Bool.Decides.{nat_tests}
use Rattle.std.proofs.lemmas.Grind.{common_steps}
use Rattle.value_core.specs.Integer.{is_numeral, numeral_below}

all_digits : (bs : List ℕ) → list_all is_ascii_digit bs ≡ all_ascii_digits bs
all_digits [] = refl
all_digits (b ∷ bs) = ap (λ r. is_ascii_digit b && r) (all_digits bs)

digits_ascii : (bs : List ℕ) → all_ascii_digits bs ≡ true → (i : ℕ) → get_or bs i 0 < 128
digits_ascii [] all i = grind (arith, common_steps)
digits_ascii (b ∷ bs) all zero = grind (arith, nat_tests)
digits_ascii (b ∷ bs) all (suc i) = digits_ascii bs (grind (arith, nat_tests)) i

own : IsNumeralModel (λ ds. all_ascii_digits ds ≡ true) (digits_value 10)
own = numerals_by_value _ tells_all_ascii_digits

numeral_all : (bs : List ℕ) → is_numeral bs ≡ true → all_ascii_digits bs ≡ true
numeral_all bs n = let h : list_all is_ascii_digit bs ≡ true = grind (arith, nat_tests) in sym (all_digits bs) ∙ h

numeral_some : (bs : List ℕ) → is_numeral bs ≡ true → 0 < length bs
numeral_some bs n = grind (arith, nat_tests)

pub plain_utf8 : (bs : List ℕ) → is_numeral bs ≡ true → IsUtf8 bs
plain_utf8 bs n = IsUtf8-from_ascii bs (digits_ascii bs (numeral_all bs n))

minus_ascii : (bs : List ℕ) → all_ascii_digits (drop 1 bs) ≡ true → get_or bs 0 0 ≡ 45 → (i : ℕ) → get_or bs i 0 < 128
minus_ascii [] all first i = grind (arith, common_steps)
minus_ascii (b ∷ bs) all first zero = omega arith
minus_ascii (b ∷ bs) all first (suc i) = digits_ascii bs all i

pub minus_utf8 : (bs : List ℕ) → is_numeral (drop 1 bs) ≡ true → get_or bs 0 0 ≡ 45 → IsUtf8 bs
minus_utf8 bs n first = IsUtf8-from_ascii bs (minus_ascii bs (numeral_all (drop 1 bs) n) first)

answered : {E : Type 0} (Q : Type 0) (f : ℕ → ℤ) (limit v : ℕ) (test : Bool) (r : Result ℤ E) → test ≡ true → OkIff r Q (f v) → (Q → v < limit) → (v < limit → Q) →
    result_ok r ≡ option_map f (cond (test && nat_lt v limit) (Some v) None)
answered Q f limit v test (Ok x) t o to from = let h : v < limit = to (o.0) in grind (arith, nat_tests)
answered Q f limit v test (Err e) t o to from = let n : v < limit → ⊥ = λ l. o (from l) in let h : limit ≤ v = omega arith in grind (arith, nat_tests)

pub parsed_plain : {E : Type 0} (bs : List ℕ) (r : Result ℤ E) → ParsesSigned w64 10 bs r → is_numeral bs ≡ true → result_ok r ≡ option_map pos (numeral_below (2 ^ 63) bs)
parsed_plain bs r p n =
    answered _ pos (2 ^ 63) (digits_value 10 bs) (is_numeral bs) r n (parse_signed_digits own w64 bs r p (numeral_all bs n)) (λ q. q.1) (λ l. (numeral_some bs n, l))

pub parsed_minus : {E : Type 0} (bs : List ℕ) (r : Result ℤ E) → ParsesSigned w64 10 bs r → is_numeral (drop 1 bs) ≡ true → get_or bs 0 0 ≡ 45 →
    result_ok r ≡ option_map (λ n. neg_ℤ (pos n)) (numeral_below (2 ^ 63 + 1) (drop 1 bs))
parsed_minus bs r p n first =
    answered _ (λ n. neg_ℤ (pos n)) (2 ^ 63 + 1) (digits_value 10 (drop 1 bs)) (is_numeral (drop 1 bs)) r n (parse_signed_minus own w64 bs r p first) (λ q. omega (arith, q.2)) (λ l. (numeral_all (drop 1 bs) n, numeral_some (drop 1 bs) n, omega arith))
