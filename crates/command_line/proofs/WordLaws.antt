-- Laws of words.
use Rattle.std.proofs.Common.{◌≡◌, ℕ, suc, ◌+◌, ◌-◌, ◌<◌, ◌≤◌, ◌⊎◌, inl, inr, Bool, true, false, not, cond, ◌&&◌, ◌||◌, true≢false, ◌==◌, List, [], ◌∷◌, length, Option, Some, None, find, refl, sym, ap, ◌∙◌, arith}
use Rattle.std.specs.Prelude.{is_some}
use Rattle.std.specs.Fmt.{decimal, digits}
use Rattle.std.specs.List.{list_all, range_with_len}
use Rattle.std.specs.Char.{encode_utf8}
use Rattle.std.specs.Str.{IsValidUpTo, bytes_eq, chars, is_utf8}
use Rattle.std.specs.Str.Lossy.{utf8_valid_len}
use Rattle.std.proofs.lemmas.Bool.{ne_eqb}
use Rattle.std.proofs.lemmas.Slice.Eq.{bytes_eq-Decides}
use Rattle.std.proofs.lemmas.Str.{utf8_valid_len-IsValidUpTo}
use Rattle.value_core.specs.Text.{is_text}
use Rattle.command_line.specs.Word.{is_known, is_operand, is_option, workers_of}
use Rattle.command_line.proofs.WalkLaws.{IsBare, dashed}

-- ---- numbers

-- the first of the numbers from n to 16 that a word spells
abbrev pub first_spelled : List ℕ → ℕ → Option ℕ
first_spelled word n = find (λ k. bytes_eq word (decimal k)) (range_with_len n (17 - n))

next : (word : List ℕ) (n : ℕ) → n < 17 → first_spelled word n ≡ cond (bytes_eq word (decimal n)) (Some n) (first_spelled word (n + 1))
next word n below = let e : 17 - n ≡ suc (17 - (n + 1)) = omega arith in rw e refl

pub spelled_here : (word : List ℕ) (n : ℕ) → n < 17 → bytes_eq word (decimal n) ≡ true → first_spelled word n ≡ Some n
spelled_here word n below e = next word n below ∙ ap (λ b. cond b (Some n) (first_spelled word (n + 1))) e

pub spelled_past : (word : List ℕ) (n : ℕ) → n < 17 → bytes_eq word (decimal n) ≡ false → first_spelled word n ≡ first_spelled word (n + 1)
spelled_past word n below e = next word n below ∙ ap (λ b. cond b (Some n) (first_spelled word (n + 1))) e

pub spelled_end : (word : List ℕ) (n : ℕ) → 17 ≤ n → first_spelled word n ≡ None
spelled_end word n above = let e : 17 - n ≡ 0 = omega arith in rw e refl

-- ---- tests

pub both : (a b : Bool) → (a && b) ≡ true → (a ≡ true) × (b ≡ true)
both true b e = (refl, e)
both false b e = absurd (true≢false (sym e))

is_false : (b : Bool) → not b ≡ true → b ≡ false
is_false true e = absurd (true≢false (sym e))
is_false false e = refl

or_known : (a b : Bool) → (a || b) ≡ true → (a ≡ true) ⊎ (b ≡ true)
or_known true b e = inl refl
or_known false b e = inr e

-- ---- known words

bare : (w : List ℕ) → is_operand w ≡ true → IsBare w
bare [] e = absurd (true≢false (sym e))
bare (x ∷ xs) e =
    let no : (x == 45) ≡ false = is_false _ (both _ _ (both _ _ e).0).1 in
    record { no_dash = rw no refl; no_end = rw no refl; no_option = rw no refl }

-- a known word begins with no `-`, or is the option
pub view : (w : List ℕ) → is_known w ≡ true → IsBare w ⊎ ((w ≡ dashed) × (is_option w ≡ true))
view w e = elim (or_known (is_operand w) (is_option w) e) [
  | inl h ↦ inl (bare w h)
  | inr h ↦ inr ((bytes_eq-Decides w dashed).0 h, h)
]

-- what spells a number of workers may name a file
spelled_from : (w : List ℕ) (xs : List ℕ) → list_all (λ n. is_operand (decimal n)) xs ≡ true → is_some (find (λ n. bytes_eq w (decimal n)) xs) ≡ true → is_operand w ≡ true
spelled_from w [] all some = absurd (true≢false (sym some))
spelled_from w (x ∷ xs) all some = go (bytes_eq w (decimal x)) refl some (spelled_from w xs (both _ _ all).1)
  where
    go : (b : Bool) → bytes_eq w (decimal x) ≡ b → is_some (cond b (Some x) (find (λ n. bytes_eq w (decimal n)) xs)) ≡ true
        → (is_some (find (λ n. bytes_eq w (decimal n)) xs) ≡ true → is_operand w ≡ true) → is_operand w ≡ true
    go true e s later = ap is_operand ((bytes_eq-Decides w (decimal x)).0 e) ∙ (both _ _ all).0
    go false e s later = later s

numbers_are_operands : list_all (λ n. is_operand (decimal n)) (range_with_len 1 16) ≡ true
unfolding digits utf8_valid_len is_utf8 chars encode_utf8
numbers_are_operands = refl

pub spelled_operand : (w : List ℕ) → is_some (workers_of w) ≡ true → is_operand w ≡ true
spelled_operand w some = spelled_from w (range_with_len 1 16) numbers_are_operands some

option_text : is_text dashed ≡ true
unfolding utf8_valid_len is_utf8 chars encode_utf8
option_text = refl

known_text : (w : List ℕ) → is_known w ≡ true → is_text w ≡ true
known_text w e = elim (or_known (is_operand w) (is_option w) e) [
  | inl h ↦ (both _ _ h).1
  | inr h ↦ ap is_text ((bytes_eq-Decides w dashed).0 h) ∙ option_text
]

-- bytes of which a shorter front is the longest text aren't known
pub unknown : (w : List ℕ) (n : ℕ) → IsValidUpTo w n → is_known w ≡ true → ⊥
unknown w n valid e =
    let front = utf8_valid_len-IsValidUpTo w n valid in
    let short = valid.short in
    true≢false (sym (known_text w e) ∙ ne_eqb (utf8_valid_len w) (length w) (λ same. omega arith))
