-- The least of the unknown keys is the first, since the keys of a table ascend.
use Rattle.std.proofs.Common.{◌≡◌, ℕ, Bool, true, false, not, List, [], ◌∷◌, Option, Some, None, IfSome, option_map, cond, String, Global, string_bytes, Bor, Less, refl, ap, ◌∙◌}
use Rattle.std.specs.Cmp.Lexicographic.{slice_cmp}
use Rattle.std.specs.List.{AllByRecursion, find}
use Rattle.std.specs.List.Sorted.{IsStrictlySortedBy}
use Rattle.std.specs.Map.{keys_of}
use Rattle.std.specs.Ordering.{is_lt, nat_cmp}
use Rattle.std.specs.String.{string_cmp}
use Rattle.toml.specs.View.{members_view}
use Rattle.toml.specs.declared.value.Value.{Value}
use Rattle.toml_keys.specs.Keys.{is_among, least, lesser, unknown_keys}

-- a key is below another one by its bytes
abbrev pub IsBelow : List ℕ → List ℕ → Type 0
IsBelow key other = slice_cmp nat_cmp key other ≡ Less

picks : (P : List ℕ → Type 0) (b : Bool) (x y : List ℕ) → P x → P y → P (cond b x y)
picks P true x y px py = px
picks P false x y px py = py

-- the lesser of two that are above a key is above it
above_lesser : (key x : List ℕ) (other : Option (List ℕ)) → IsBelow key x → IfSome other (IsBelow key) → IsBelow key (lesser x other)
above_lesser key x None here h = here
above_lesser key x (Some y) here h = picks (IsBelow key) (is_lt (slice_cmp nat_cmp x y)) x y here h

-- the least unknown key is above what all keys are above
above_least : (allowed : List (List ℕ)) (key : List ℕ) (entries : List (String Global × Value)) → AllByRecursion (λ other. IsBelow key (string_bytes other)) (keys_of entries) → IfSome (least (unknown_keys allowed (members_view entries))) (IsBelow key)
above_least allowed key [] h = tt
above_least allowed key (e ∷ es) h =
    let rest = above_least allowed key es h.1 in
    elim (is_among allowed (string_bytes e.0)) as (λ b. IfSome (least (cond b (unknown_keys allowed (members_view es)) (string_bytes e.0 ∷ unknown_keys allowed (members_view es)))) (IsBelow key)) [
      | true ↦ rest
      | false ↦ above_lesser key (string_bytes e.0) (least (unknown_keys allowed (members_view es))) h.0 rest
    ]

-- a key below the least one is the lesser
lesser_below : (key : List ℕ) (other : Option (List ℕ)) → IfSome other (IsBelow key) → lesser key other ≡ key
lesser_below key None h = refl
lesser_below key (Some other) h = rw h

-- the first unknown key is the least
pub least_of_sorted : (allowed : List (List ℕ)) (entries : List (String Global × Value)) → IsStrictlySortedBy string_cmp (keys_of entries)
    → option_map string_bytes (find (λ key. not (is_among allowed (string_bytes key))) (keys_of entries)) ≡ least (unknown_keys allowed (members_view entries))
unfolding IsStrictlySortedBy
least_of_sorted allowed [] sorted = refl
least_of_sorted allowed (e ∷ es) sorted =
    let rest = least_of_sorted allowed es sorted.1 in
    let unknown = unknown_keys allowed (members_view es) in
    let above : IfSome (least unknown) (IsBelow (string_bytes e.0)) = above_least allowed (string_bytes e.0) es sorted.0 in
    elim (is_among allowed (string_bytes e.0)) as (λ b. option_map string_bytes (cond (not b) (Some e.0) (find (λ key. not (is_among allowed (string_bytes key))) (keys_of es))) ≡ least (cond b unknown (string_bytes e.0 ∷ unknown))) [
      | true ↦ rest
      | false ↦ rw (lesser_below (string_bytes e.0) (least unknown) above)
    ]

-- the same, of the key that was found
pub least_from_found : (allowed : List (List ℕ)) (entries : List (String Global × Value)) (found : Option (Bor (String Global))) → IsStrictlySortedBy string_cmp (keys_of entries)
    → option_map (λ key. key.now) found ≡ find (λ key. not (is_among allowed (string_bytes key))) (keys_of entries)
    → option_map (λ key. string_bytes key.now) found ≡ least (unknown_keys allowed (members_view entries))
least_from_found allowed entries None sorted e = ap (option_map string_bytes) e ∙ least_of_sorted allowed entries sorted
least_from_found allowed entries (Some key) sorted e = ap (option_map string_bytes) e ∙ least_of_sorted allowed entries sorted
