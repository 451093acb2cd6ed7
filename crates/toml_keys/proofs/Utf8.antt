-- What a document of UTF-8 reads as.
use Rattle.std.proofs.Common.{◌≡◌, ◌↔◌, ℕ, Bool, true, false, List, Option, None, Result, Ok, Err, IfOk, IsErr, option_map, IsUtf8, refl}
use Rattle.std.proofs.lemmas.Str.{IsUtf8-from_is_utf8, is_utf8-from_IsUtf8}
use Rattle.std.specs.Str.{is_utf8}
use Rattle.toml.specs.Data.{Members}
use Rattle.toml.specs.Parse.{parse_document}
use Rattle.toml_keys.specs.Keys.{document_of, when, ◌>>=◌}

-- bytes that are UTF-8 read as their text does
pub document_of_text : (bytes : List ℕ) (found : Option Members) → IsUtf8 bytes × (parse_document bytes ≡ found) → document_of bytes ≡ found
unfolding document_of
document_of_text bytes found h = rw (is_utf8-from_IsUtf8 bytes h.0, h.1)

none_unless : (b : Bool) (bytes : List ℕ) → is_utf8 bytes ≡ b → (IsUtf8 bytes → parse_document bytes ≡ None) → (when b bytes >>= parse_document) ≡ None
none_unless true bytes is h = h (IsUtf8-from_is_utf8 bytes is)
none_unless false bytes is h = refl

-- bytes that write no table where they are UTF-8 write none
pub document_of_none : (bytes : List ℕ) → (IsUtf8 bytes → parse_document bytes ≡ None) → document_of bytes ≡ None
unfolding document_of
document_of_none bytes h = none_unless (is_utf8 bytes) bytes refl h

-- an error that isn't want of memory says that the bytes write no table
pub document_of_error : {A E : Type 0} (view : A → Members) (bytes : List ℕ) (memory : Type 0) (answer : Result (Option A) E)
    → (IsErr answer ↔ memory) → IfOk answer (λ found. found ≡ None) → (¬ memory → IsUtf8 bytes → parse_document bytes ≡ None) → IfOk answer (λ found. option_map view found ≡ document_of bytes)
document_of_error view bytes memory (Ok found) when_memory none refused = let no : ¬ memory = (λ m. cc (when_memory.1 m)) in rw (none, document_of_none bytes (refused no)) refl
document_of_error view bytes memory (Err e) when_memory none refused = tt
