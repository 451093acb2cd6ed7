-- What is read at the keys of a TOML table, and the first fault of its keys.
use Rattle.std.specs.Prelude.{ℕ, ℤ, pos, negsuc, Bool, ◌&&◌, nat_le, List, [], ◌∷◌, ◌++◌, length, Option, Some, None, option_map, option_and_then, Result, Ok, Err, if◌then◌else◌}
use Rattle.std.specs.List.{list_any}
use Rattle.std.specs.Ordering.{is_lt, nat_cmp}
use Rattle.std.specs.Cmp.Lexicographic.{slice_cmp}
use Rattle.std.specs.Str.{bytes_eq, is_utf8}
use Rattle.toml.specs.Data.{Data, Items, no_items, item, Members, no_members, member, get_member, as_str, as_integer, as_array}
use Rattle.toml.specs.Parse.{parse_document}
use Rattle.first_fault.specs.Reading.{◌>>=◌ as ◌>>?◌, found_or}
use Rattle.toml_keys.specs.declared.fault.KeyFault.{KeyFault}
use Rattle.toml_keys.specs.declared.fault.KeyFault.TheVariants.{UnknownKey, MissingKey, BadKey}

infixl 10 ◌>>=◌
abbrev pub ◌>>=◌ : {A B : Type 0} → Option A → (A → Option B) → Option B
o >>= f = option_and_then f o

-- the value, where the test holds
abbrev pub when : {A : Type 0} → Bool → A → Option A
when test value = if test then Some value else None

-- the table that these bytes write: they are UTF-8 and TOML
unfoldable pub document_of : List ℕ → Option Members
document_of bytes = when (is_utf8 bytes) bytes >>= parse_document

-- the two bounds have the number between them
abbrev pub within : ℕ → ℕ → ℕ → Bool
within low high number = nat_le low number && nat_le number high

-- the natural number that an integer is
abbrev pub natural : ℤ → Option ℕ
natural (pos n) = Some n
natural (negsuc n) = None

-- the list of an array's items
abbrev pub list_of : Items → List Data
list_of no_items = []
list_of (item d ds) = d ∷ list_of ds

-- a whole number within the two bounds
unfoldable pub number_of : ℕ → ℕ → Data → Option ℕ
number_of low high value = as_integer value >>= natural >>= (λ n. when (within low high n) n)

-- a text of 1 to so many bytes
unfoldable pub text_of : ℕ → Data → Option (List ℕ)
text_of longest value = as_str value >>= (λ bytes. when (within 1 longest (length bytes)) bytes)

-- an array of so many items
unfoldable pub array_of : ℕ → ℕ → Data → Option (List Data)
array_of least most value = option_map list_of (as_array value) >>= (λ items. when (within least most (length items)) items)

-- what is read at a key that has to be there
unfoldable pub required : {A : Type 0} → List ℕ → (Data → Option A) → Members → Result A KeyFault
required key read members = found_or (MissingKey key) (get_member key members) >>? (λ value. found_or (BadKey key) (read value))

-- what a value at a key is read as, or the default where there is none
abbrev pub read_or : {A : Type 0} → List ℕ → A → (Data → Option A) → Option Data → Result A KeyFault
read_or key default read None = Ok default
read_or key default read (Some value) = found_or (BadKey key) (read value)

-- what is read at a key that may be absent
unfoldable pub optional : {A : Type 0} → List ℕ → A → (Data → Option A) → Members → Result A KeyFault
optional key default read members = read_or key default read (get_member key members)

-- whether a key is one of these
abbrev pub is_among : List (List ℕ) → List ℕ → Bool
is_among allowed key = list_any (bytes_eq key) allowed

-- the keys of a table that are none of these
abbrev pub unknown_keys : List (List ℕ) → Members → List (List ℕ)
unknown_keys allowed no_members = []
unknown_keys allowed (member key value rest) = if is_among allowed key then unknown_keys allowed rest else key ∷ unknown_keys allowed rest

-- of a key and another one, if there is another, the one that comes first by its bytes
abbrev pub lesser : List ℕ → Option (List ℕ) → List ℕ
lesser key None = key
lesser key (Some other) = if is_lt (slice_cmp nat_cmp key other) then key else other

-- the key that comes first by its bytes
abbrev pub least : List (List ℕ) → Option (List ℕ)
least [] = None
least (key ∷ keys) = Some (lesser key (least keys))

-- the members, where no key is unknown
abbrev pub none_unknown : Members → Option (List ℕ) → Result Members KeyFault
none_unknown table None = Ok table
none_unknown table (Some key) = Err (UnknownKey key)

-- the members of a table that has no key but these; else its least unknown key is at fault
abbrev pub known : List (List ℕ) → Members → Result Members KeyFault
known allowed members = none_unknown members (least (unknown_keys allowed members))

-- a fault of a key in a table, whose own key and a dot are this prefix
abbrev pub under : List ℕ → KeyFault → KeyFault
under prefix (UnknownKey key) = UnknownKey (prefix ++ key)
under prefix (MissingKey key) = MissingKey (prefix ++ key)
under prefix (BadKey key) = BadKey (prefix ++ key)
