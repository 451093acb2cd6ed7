-- What was read where a reading went well.
use Rattle.std.proofs.Common.{◌≡◌, ℕ, Bool, true, false, List, length, Option, Some, None, option_map, Result, Ok, Err, refl, subst}
use Rattle.toml.specs.Data.{Data, Members, get_member, as_integer, as_array}
use Rattle.first_fault.specs.Reading.{◌>>=◌, found_or, renamed}
use Rattle.toml_keys.specs.Keys.{◌>>=◌ as ◌>>?◌, when, within, natural, list_of, number_of, array_of, required, read_or, optional}
use Rattle.toml_keys.specs.declared.fault.KeyFault.TheVariants.{MissingKey, BadKey}

-- what a reading gave is one value
pub ok_same : {A F : Type 0} (x y : A) → (let read : Result A F = Ok x in read ≡ Ok y) → x ≡ y
ok_same x y e = cc

-- both steps went well
pub bind_ok : {A B F : Type 0} (read : Result A F) (next : A → Result B F) (y : B) → (read >>= next) ≡ Ok y → (x : A) × (read ≡ Ok x) × (next x ≡ Ok y)
bind_ok (Ok x) next y e = (x, refl, e)
bind_ok (Err fault) next y e = absurd (cc)

pub then_some : {A B : Type 0} (read : Option A) (next : A → Option B) (y : B) → (read >>? next) ≡ Some y → (x : A) × (read ≡ Some x) × (next x ≡ Some y)
then_some (Some x) next y e = (x, refl, e)
then_some None next y e = absurd (cc)

pub renamed_ok : {A F G : Type 0} (name : F → G) (read : Result A F) (x : A) → renamed name read ≡ Ok x → read ≡ Ok x
renamed_ok name (Ok y) x e = cc
renamed_ok name (Err fault) x e = absurd (cc)

pub found_ok : {A F : Type 0} (fault : F) (found : Option A) (x : A) → found_or fault found ≡ Ok x → found ≡ Some x
found_ok fault (Some y) x e = cc
found_ok fault None x e = absurd (cc)

pub when_some : {A : Type 0} (test : Bool) (v x : A) → when test v ≡ Some x → (test ≡ true) × (v ≡ x)
when_some true v x e = (refl, cc)
when_some false v x e = absurd (cc)

-- at a key that has to be there, some value was read
pub required_some : {A : Type 0} (key : List ℕ) (read : Data → Option A) (members : Members) (x : A) → required key read members ≡ Ok x → (value : Data) × (read value ≡ Some x)
unfolding required
required_some key read members x e =
    let found = bind_ok (found_or (MissingKey key) (get_member key members)) (λ value. found_or (BadKey key) (read value)) x e in
    (found.0, found_ok (BadKey key) (read found.0) x found.2)

read_or_keeps : {A : Type 0} (P : A → Type 0) (key : List ℕ) (default : A) (read : Data → Option A) (found : Option Data) (x : A) → read_or key default read found ≡ Ok x
    → P default → ((value : Data) → read value ≡ Some x → P x) → P x
read_or_keeps P key default read None x e here there = let same : default ≡ x = cc in subst P same here
read_or_keeps P key default read (Some value) x e here there = there value (found_ok (BadKey key) (read value) x e)

-- at a key that may be absent, what the default keeps and what is read keeps is kept
pub optional_keeps : {A : Type 0} (P : A → Type 0) (key : List ℕ) (default : A) (read : Data → Option A) (members : Members) (x : A) → optional key default read members ≡ Ok x
    → P default → ((value : Data) → read value ≡ Some x → P x) → P x
unfolding optional
optional_keeps P key default read members x e here there = read_or_keeps P key default read (get_member key members) x e here there

-- a number lies within its bounds
pub number_within : (low high : ℕ) (value : Data) (n : ℕ) → number_of low high value ≡ Some n → within low high n ≡ true
unfolding number_of
number_within low high value n e =
    let read = then_some (as_integer value >>? natural) (λ m. when (within low high m) m) n e in
    let kept = when_some (within low high read.0) read.0 n read.2 in
    subst (λ m. within low high m ≡ true) kept.1 kept.0

-- the same of a number at a key
pub number_at_within : (low high : ℕ) (key : List ℕ) (default : ℕ) (members : Members) (n : ℕ) → within low high default ≡ true → optional key default (number_of low high) members ≡ Ok n → within low high n ≡ true
number_at_within low high key default members n h e = optional_keeps (λ m. within low high m ≡ true) key default (number_of low high) members n e h (λ value read. number_within low high value n read)

-- an array has as many items as it may
pub array_within : (low high : ℕ) (value : Data) (items : List Data) → array_of low high value ≡ Some items → within low high (length items) ≡ true
unfolding array_of
array_within low high value items e =
    let read = then_some (option_map list_of (as_array value)) (λ found. when (within low high (length found)) found) items e in
    let kept = when_some (within low high (length read.0)) read.0 items read.2 in
    subst (λ found. within low high (length found) ≡ true) kept.1 kept.0
