-- How classes grow, vector by vector.
use Rattle.std.specs.Prelude.{◌≡◌, ℕ, ◌+◌, ◌<◌, nat_le, Bool, true, if◌then◌else◌, List, [], ◌∷◌, ◌++◌, map, length, replicate, fold, Option, Some, None, option_map, IfSome, Result, MatchResult}
use Rattle.std.specs.List.{list_any, enumerate_from}
use Rattle.bit_rows.specs.Bits.{same_bits}
use Rattle.bit_classes.specs.declared.class.Class.{Class}
use Rattle.bit_classes.specs.declared.class.ClassEnd.{ClassEnd}
use Rattle.bit_classes.specs.declared.class.ClassEnd.TheVariants.{More}
use Rattle.bit_classes.specs.declared.join.Join.{Join}
use Rattle.bit_classes.specs.declared.join.Join.TheVariants.{And, Or}
use Rattle.bit_classes.specs.Classes.{class_of}
use Rattle.bit_classes.specs.Vectors.{combined}

-- classes of vectors of one width that were found, and the most that may be found
pub record Walk : Type 0 where
  pub classes : List Class
  pub width : ℕ
  pub limit : ℕ

-- an entry of a map from vectors to their numbers, as a class
abbrev pub entry_class : List Bool × ℕ → Class
entry_class e = record { bits = e.0; number = e.1 }

-- whether a vector is that of a class
abbrev pub is_known : List Class → List Bool → Bool
is_known classes vector = list_any (λ c. same_bits vector c.bits) classes

-- the classes after a vector with its number, which is a class if it is new
abbrev pub with_vector : List Class → ℕ × List Bool → List Class
with_vector classes e = if is_known classes e.1 then classes else classes ++ class_of e ∷ []

-- the classes after some vectors with their numbers, in turn
abbrev pub with_vectors : List Class → List (ℕ × List Bool) → List Class
with_vectors classes es = fold with_vector classes es

-- what seeing some vectors with their numbers leaves: the classes after them, or `More` only where these are too many
abbrev pub Sees : Walk → List (ℕ × List Bool) → Walk → Result (Unit {0}) ClassEnd → Type 0
Sees old es new result =
    MatchResult result
    (λ _. new ≡ record old { classes = with_vectors old.classes es })
    (λ end. end ≡ More → old.limit < length (with_vectors old.classes es))

-- vectors that are told, each with its number, where one that isn't told has a number too
abbrev pub numbered : ℕ → List (Option (List Bool)) → List (ℕ × List Bool)
numbered n [] = []
numbered n (None ∷ vectors) = numbered (n + 1) vectors
numbered n (Some v ∷ vectors) = (n, v) ∷ numbered (n + 1) vectors

-- a vector that is told has this width
abbrev pub HasWidth : ℕ → Option (List Bool) → Type 0
HasWidth width told = IfSome told (λ v. length v ≡ width)

-- two vectors that are told have one width
abbrev pub SameWidth : Option (List Bool) → Option (List Bool) → Type 0
SameWidth a b = IfSome a (λ v. IfSome b (λ w. length v ≡ length w))

-- of each vector whether it is new when they are seen in turn, and then the vector
abbrev pub new_vectors : List Class → ℕ → List (List Bool) → List (Option (List Bool))
new_vectors classes n [] = []
new_vectors classes n (v ∷ vectors) = (if is_known classes v then None else Some v) ∷ new_vectors (with_vector classes (n, v)) (n + 1) vectors

-- two vectors combined, where both are told
abbrev pub combined_told : Join → Option (List Bool) → Option (List Bool) → Option (List Bool)
combined_told join None b = None
combined_told join (Some x) b = option_map (combined join x) b

-- a vector that is told, if it passes a test
abbrev pub if_passing : (List Bool → Bool) → Option (List Bool) → Option (List Bool)
if_passing test None = None
if_passing test (Some v) = if test v then Some v else None

-- the vectors of a list that pass a test
abbrev pub sifted : (List Bool → Bool) → List (Option (List Bool)) → List (Option (List Bool))
sifted test rows = map (if_passing test) rows

-- each vector of a first list combined with those that stand later in a second
abbrev pub told_later : Join → List (Option (List Bool)) → List (Option (List Bool)) → List (Option (List Bool))
told_later join [] rows = []
told_later join (first ∷ firsts) [] = []
told_later join (first ∷ firsts) (m ∷ ms) = map (combined_told join first) ms ++ told_later join firsts ms

-- each two vectors of a list combined, where both are told
abbrev pub told_pairs : Join → List (Option (List Bool)) → List (Option (List Bool))
told_pairs join rows = told_later join rows rows

-- a vector that is told, if it is new
abbrev pub if_new : List Class → Option (List Bool) → Option (List Bool)
if_new classes None = None
if_new classes (Some v) = if is_known classes v then None else Some v

-- the classes after a vector, if it is told
abbrev pub with_told : List Class → Option (List Bool) → List Class
with_told classes None = classes
with_told classes (Some v) = with_vector classes (0, v)

-- two vectors combined, where both are told and what they give passes a test
abbrev pub combined_passing : (List Bool → Bool) → Join → Option (List Bool) → Option (List Bool) → Option (List Bool)
combined_passing test join a b = if_passing test (combined_told join a b)

-- a first vector combined with each of a list in turn, where this passes a test and is new
abbrev pub new_pairs : (List Bool → Bool) → Join → List Class → Option (List Bool) → List (Option (List Bool)) → List (Option (List Bool))
new_pairs test join pair_classes first [] = []
new_pairs test join pair_classes first (m ∷ ms) =
    if_new pair_classes (combined_passing test join first m) ∷ new_pairs test join (with_told pair_classes (combined_passing test join first m)) first ms

-- the classes after a first vector combined with each of a list, where this passes a test
abbrev pub classes_under : (List Bool → Bool) → Join → List Class → Option (List Bool) → List (Option (List Bool)) → List Class
classes_under test join pair_classes first [] = pair_classes
classes_under test join pair_classes first (m ∷ ms) = classes_under test join (with_told pair_classes (combined_passing test join first m)) first ms

-- a first vector combined with each two of a list, where it with the earlier of the two passes a test and is new
abbrev pub told_under : (List Bool → Bool) → Join → List Class → Option (List Bool) → List (Option (List Bool)) → List (Option (List Bool))
told_under test join pair_classes first ms = told_later join (new_pairs test join pair_classes first ms) ms

-- each three vectors of a list combined, where the first two of them give a vector that passes a test and is new
abbrev pub told_triples : (List Bool → Bool) → Join → List Class → List (Option (List Bool)) → List (Option (List Bool))
told_triples test join pair_classes [] = []
told_triples test join pair_classes (m ∷ ms) = told_under test join pair_classes m ms ++ told_triples test join (classes_under test join pair_classes m ms) ms

-- the vectors of two rows that are told: ANDs of some, and ORs of some
abbrev pub told_two : List (Option (List Bool)) → List (Option (List Bool)) → List (Option (List Bool))
told_two ands ors = told_pairs And ands ++ told_pairs Or ors

-- the vectors of three rows that are told: ANDs of some, and ORs of some, where the first two of them pass a sieve
abbrev pub told_three : (Join → List Bool → Bool) → List (Option (List Bool)) → List (Option (List Bool)) → List (Option (List Bool))
told_three may ands ors = told_triples (may And) And [] ands ++ told_triples (may Or) Or [] ors

-- the vectors of two or three rows that pass a sieve, as far as the bound goes, in the order of the predicates
abbrev pub told_more : (Join → List Bool → Bool) → List (Option (List Bool)) → ℕ → List (Option (List Bool))
told_more may rows bound =
    (if nat_le 2 bound then told_two (sifted (may And) rows) (sifted (may Or) rows) else [])
    ++ (if nat_le 3 bound then told_three may (sifted (may And) rows) (sifted (may Or) rows) else [])

-- the full vector, which is that of Always, as the only class
abbrev pub only_full : ℕ → List Class
only_full width = class_of (0, replicate width true) ∷ []

-- the vectors of the predicates of up to `bound` atoms that are seen with a sieve, each with its number, where these are the vectors of the atoms
abbrev pub all_told : (Join → List Bool → Bool) → ℕ → List (List Bool) → ℕ → List (ℕ × List Bool)
all_told may width rows bound =
    (0, replicate width true) ∷ (enumerate_from 1 rows ++ numbered (1 + length rows) (told_more may (new_vectors (only_full width) 1 rows) bound))
