-- One name more, or a fault, after the names of a header so far.
use Rattle.std.proofs.Common.{◌≡◌, ◌<◌, ◌+◌, ◌∙◌, ℕ, List, [], ◌∷◌, ◌++◌, length, drop, Some, None, Err, ap, sym, refl}
use Rattle.std.proofs.lemmas.List.{at_drop_more}
use Rattle.std.proofs.lemmas.Option.{unwrap_or-slice_get}
use Rattle.table_read.specs.Table.{field_at, name_of, names_after}
use Rattle.table_read.specs.declared.fault.TableFault.TheVariants.{BadName}

names_step : (earlier header : List (List ℕ)) (at : ℕ) → at < length header → names_after at earlier (drop at header) ≡ names_after at earlier (field_at header at ∷ drop (at + 1) header)
names_step earlier header at h =
    at_drop_more (names_after at earlier) header at [] h
    ∙ ap (λ (f : List ℕ). names_after at earlier (f ∷ drop (at + 1) header)) (sym (unwrap_or-slice_get header at []))

pub names_more : (earlier header : List (List ℕ)) (at : ℕ) (name : List ℕ) → at < length header → Some name ≡ name_of earlier (field_at header at)
    → names_after at earlier (drop at header) ≡ names_after (at + 1) (earlier ++ name ∷ []) (drop (at + 1) header)
names_more earlier header at name h e = names_step earlier header at h ∙ rw (← e) refl

pub names_wrong : (earlier header : List (List ℕ)) (at : ℕ) → at < length header → None ≡ name_of earlier (field_at header at)
    → names_after at earlier (drop at header) ≡ Err (BadName (at + 1))
names_wrong earlier header at h e = names_step earlier header at h ∙ rw (← e) refl
