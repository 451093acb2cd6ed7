use Rattle.std.proofs.Common.{◌≡◌, ◌==◌, ◌∙◌, ℕ, List, length, arith, eq-eqb, sym}
use Rattle.std.specs.Prelude.{IsUtf8, MatchResult, Result, Ok, Err}
use Rattle.std.specs.Result.{is_ok}
use Rattle.std.specs.Str.{IsValidUpTo}
use Rattle.std.specs.Str.Lossy.{utf8_valid_len}
use Rattle.std.proofs.lemmas.Bool.{ne_eqb}
use Rattle.std.proofs.lemmas.Str.{utf8_valid_len-IsUtf8, utf8_valid_len-IsValidUpTo}
use Rattle.value_core.proofs.text.is_text.Goals as goal

-- bytes are text where all of them are the longest front that is
told_by_front : {T E : Type 0} (r : Result T E) (P : T → Type 0) (front : E → ℕ) (bytes : List ℕ)
    → MatchResult r (λ s. P s × IsUtf8 bytes) (λ e. ¬ (IsUtf8 bytes) × IsValidUpTo bytes (front e)) → is_ok r ≡ (utf8_valid_len bytes == length bytes)
told_by_front (Ok s) P front bytes h = sym (eq-eqb (utf8_valid_len bytes) (length bytes) (utf8_valid_len-IsUtf8 bytes h.1))
told_by_front (Err e) P front bytes h =
    let valid = utf8_valid_len-IsValidUpTo bytes (front e) h.1 in
    let short = h.1.short in
    sym (ne_eqb (utf8_valid_len bytes) (length bytes) (λ same. omega arith))

pub returns : goal.returns
returns c = c.is_ok.ensures.value ∙ told_by_front c.from_utf8.result _ _ c.args.bytes.now c.from_utf8.ensures.cases
