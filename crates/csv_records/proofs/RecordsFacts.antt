-- Records that were reached one after the other, and then no more, are all the records of a text.
use Rattle.std.proofs.Common.{◌≡◌, ◌≤◌, ◌<◌, ◌⊎◌, inl, inr, ℕ, zero, suc, List, [], ◌∷◌, ◌++◌, length, Option, Some, None, Bool, true, false, refl, arith}
use Rattle.std.proofs.lemmas.List.{length-append}
use Rattle.std.proofs.lemmas.List.Elements.{All-cons, All-nil}
use Rattle.std.specs.Prelude.{◌+◌, ◌==◌, if◌then◌else◌, All}
use Rattle.csv.specs.Machine.{Read, after_end, ends_at_end, ends_with, field_after, fields_after, in_field, is_end, next_record, start_field, start_record, step}
use Rattle.csv.specs.Reading.{ExplainsRead, Reached, default_config, is_flexible, records_from, records_next, stops_reader, strip_bom}
use Rattle.csv_records.specs.Records.{records_of}
use Rattle.csv.specs.declared.error.ErrorKind.{ErrorKind}
use Rattle.csv.specs.declared.error.ErrorKind.TheVariants as kind
use Rattle.csv.specs.declared.reader.Reader.{Reader}
use Rattle.csv.specs.declared.parser.Action.{Action}
use Rattle.csv.specs.declared.parser.Action.TheVariants as act
use Rattle.csv.specs.declared.parser.Config.{Config}
use Rattle.csv.specs.declared.parser.State.{State}
use Rattle.csv.specs.declared.parser.State.TheVariants as st
use Rattle.csv.specs.declared.parser.Terminator.TheVariants as term

-- a reader of records of any lengths, which takes any bytes for a field, stops only for the reader underneath or for memory
pub flexible-stops : {R : Type 0} (rem : R → Option (List ℕ)) (a b : Reader R) (why : ErrorKind) → is_flexible a ≡ true → ExplainsRead rem a b false why → stops_reader why ≡ true
flexible-stops rem a b (kind.Io e) flexible explains = refl
flexible-stops rem a b (kind.Utf8 pos err) flexible explains = absurd (let e = explains.0 in cc)
flexible-stops rem a b (kind.UnequalLengths pos expected len) flexible explains = absurd (let e = explains.0 in cc)
flexible-stops rem a b kind.OutOfMemory flexible explains = refl
flexible-stops rem a b (kind.Serialize why) flexible explains = absurd explains
flexible-stops rem a b (kind.Deserialize pos err) flexible explains = absurd explains

-- how a choice came to be a value: by its first side, or as its second
if-some : {A : Type 0} (b : Bool) (q p : A) (o : Option A) → (if b then Some q else o) ≡ Some p → ((b ≡ true) × (q ≡ p)) ⊎ (o ≡ Some p)
if-some true q p o e = inl (refl, cc)
if-some false q p o e = inr e

-- what is left after a record is no longer than what it was read from
next-within : (cfg : Config) (s : State) (fields : List (List ℕ)) (field xs : List ℕ) (p : Read) → next_record cfg s fields field xs ≡ Some p → length p.2 ≤ length xs
unfolding next_record
next-within cfg s fields field [] p e = elim (if-some (ends_at_end s) (fields ++ (field ∷ []), st.StartRecord, []) p None e) [ inl h ↦ rw (← h.1) (omega arith) | inr h ↦ cc ]
next-within cfg s fields field (c ∷ rest) p e =
    elim (if-some (is_end (step cfg s c).1) (fields_after (step cfg s c).1 fields field, (step cfg s c).0, rest) p _ e) [
      | inl h ↦ rw (← h.1) (omega arith)
      | inr h ↦ omega (arith, next-within cfg (step cfg s c).0 (fields_after (step cfg s c).1 fields field) (field_after (step cfg s c).1 c field) rest p h)
    ]

-- and shorter, where that is not empty
next-shorter : (cfg : Config) (s : State) (c : ℕ) (rest : List ℕ) (p : Read) → next_record cfg s [] [] (c ∷ rest) ≡ Some p → length p.2 ≤ length rest
unfolding next_record
next-shorter cfg s c rest p e =
    elim (if-some (is_end (step cfg s c).1) (fields_after (step cfg s c).1 [] [], (step cfg s c).0, rest) p _ e) [
      | inl h ↦ rw (← h.1) (omega arith)
      | inr h ↦ next-within cfg (step cfg s c).0 (fields_after (step cfg s c).1 [] []) (field_after (step cfg s c).1 c []) rest p h
    ]

-- a step that ends a record leaves a state in which the text may end
abbrev Between : State × Action → Type 0
Between q = is_end q.1 ≡ true → ends_at_end q.0 ≡ false

between-if : (b : Bool) (x y : State × Action) → Between x → Between y → Between (if b then x else y)
between-if true x y f g = f
between-if false x y f g = g

between-end : (b : Bool) → ends_at_end (if b then st.AfterCr else st.StartRecord) ≡ false
between-end true = refl
between-end false = refl

between-field : (c : ℕ) → Between (in_field default_config c)
between-field c =
    between-if (c == 44) (st.StartField, act.EndField) _ (λ e. cc) (between-if (ends_with term.CRLF c) (after_end term.CRLF c, act.EndRecord) (st.InField, act.Copy) (λ e. between-end (c == 13)) (λ e. cc))

between-start : (c : ℕ) → Between (start_field default_config c)
between-start c = between-if (c == 34) (st.InQuoted, act.Skip) (in_field default_config c) (λ e. cc) (between-field c)

between-record : (c : ℕ) → Between (start_record default_config c)
between-record c = between-if (ends_with term.CRLF c) (st.StartRecord, act.Skip) (start_field default_config c) (λ e. cc) (between-start c)

between-step : (s : State) (c : ℕ) → Between (step default_config s c)
between-step st.StartRecord c = between-record c
between-step st.StartField c = between-start c
between-step st.InField c = between-field c
between-step st.InQuoted c = between-if (c == 34) (st.AfterQuote, act.Skip) (st.InQuoted, act.Copy) (λ e. cc) (λ e. cc)
between-step st.InEscape c = λ e. cc
between-step st.AfterQuote c = between-if (c == 34) (st.InQuoted, act.Copy) (in_field default_config c) (λ e. cc) (between-field c)
between-step st.InComment c = between-if (c == 10) (st.StartRecord, act.Skip) (st.InComment, act.Skip) (λ e. cc) (λ e. cc)
between-step st.AfterCr c = between-if (c == 10) (st.StartRecord, act.Skip) (start_record default_config c) (λ e. cc) (between-record c)

-- so between two records the text may end
between-next : (s : State) (fields : List (List ℕ)) (field xs : List ℕ) (p : Read) → next_record default_config s fields field xs ≡ Some p → ends_at_end p.1 ≡ false
unfolding next_record
between-next s fields field [] p e = elim (if-some (ends_at_end s) (fields ++ (field ∷ []), st.StartRecord, []) p None e) [ inl h ↦ rw (← h.1) refl | inr h ↦ cc ]
between-next s fields field (c ∷ rest) p e =
    let q = step default_config s c in
    elim (if-some (is_end q.1) (fields_after q.1 fields field, q.0, rest) p _ e) [
      | inl h ↦ rw (← h.1) (between-step s c h.0)
      | inr h ↦ between-next q.0 (fields_after q.1 fields field) (field_after q.1 c field) rest p h
    ]

-- no record is left at the end of the text
none-at-end : (s : State) (p : Read) → ends_at_end s ≡ false → next_record default_config s [] [] [] ≡ Some p → ⊥
unfolding next_record
none-at-end s p b e = cc (rw b at e)

pub records-reached : (n : ℕ) (rows : List (List (List ℕ))) (s s2 : State) (xs ys : List ℕ) → ends_at_end s ≡ false → length xs < n
    → Reached default_config s xs rows s2 ys → next_record default_config s2 [] [] ys ≡ None → records_from default_config n s xs ≡ rows
unfolding Reached records_from
records-reached zero rows s s2 xs ys b l h e = absurd (omega arith)
records-reached (suc n) [] s s2 xs ys b l h e = rw (rw (← h.0, ← h.1) at e) refl
records-reached (suc n) (r ∷ rs) s s2 [] ys b l h e = absurd (none-at-end s h.0 b h.1)
records-reached (suc n) (r ∷ rs) s s2 (c ∷ rest) ys b l h e =
    let shorter = next-shorter default_config s c rest h.0 h.1 in
    let more = records-reached n rs h.0.1 s2 h.0.2 ys (between-next s [] [] (c ∷ rest) h.0 h.1) (omega arith) h.3 e in
    rw (h.1, h.2, more) refl

-- a record that was read has a field: the last one
some-field : (fields : List (List ℕ)) (field : List ℕ) → 1 ≤ length (fields ++ (field ∷ []))
some-field fields field = omega (arith, length-append fields (field ∷ []))

end-field : (action : Action) (fields : List (List ℕ)) (field : List ℕ) → is_end action ≡ true → 1 ≤ length (fields_after action fields field)
end-field act.EndRecord fields field e = some-field fields field
end-field act.Skip fields field e = cc
end-field act.Copy fields field e = cc
end-field act.EndField fields field e = cc

next-fields : (cfg : Config) (s : State) (fields : List (List ℕ)) (field xs : List ℕ) (p : Read) → next_record cfg s fields field xs ≡ Some p → 1 ≤ length p.0
unfolding next_record
next-fields cfg s fields field [] p e = elim (if-some (ends_at_end s) (fields ++ (field ∷ []), st.StartRecord, []) p None e) [ inl h ↦ rw (← h.1) (some-field fields field) | inr h ↦ cc ]
next-fields cfg s fields field (c ∷ rest) p e =
    elim (if-some (is_end (step cfg s c).1) (fields_after (step cfg s c).1 fields field, (step cfg s c).0, rest) p _ e) [
      | inl h ↦ rw (← h.1) (end-field (step cfg s c).1 fields field h.0)
      | inr h ↦ next-fields cfg (step cfg s c).0 (fields_after (step cfg s c).1 fields field) (field_after (step cfg s c).1 c field) rest p h
    ]

-- each record has a field
abbrev pub HasField : List (List ℕ) → Type 0
HasField fields = 1 ≤ length fields

records-next-fields : (more : State → List ℕ → List (List (List ℕ))) (next : Option Read) → ((p : Read) → next ≡ Some p → HasField p.0)
    → ((s : State) (xs : List ℕ) → All HasField (more s xs)) → All HasField (records_next more next)
records-next-fields more None first rest = All-nil HasField
records-next-fields more (Some p) first rest = All-cons HasField p.0 (more p.1 p.2) (first p refl) (rest p.1 p.2)

records-from-fields : (cfg : Config) (n : ℕ) (s : State) (xs : List ℕ) → All HasField (records_from cfg n s xs)
unfolding records_from
records-from-fields cfg zero s xs = All-nil HasField
records-from-fields cfg (suc n) s xs = records-next-fields (records_from cfg n) (next_record cfg s [] [] xs) (next-fields cfg s [] [] xs) (records-from-fields cfg n)

pub records_have_fields : (text : List ℕ) → All HasField (records_of text)
unfolding records_of
records_have_fields text = records-from-fields default_config (length (strip_bom text) + 1) st.StartRecord (strip_bom text)
