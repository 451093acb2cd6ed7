-- Laws of the definitions of queries: of skeletons, of keys, and of the rows of groups.
use Rattle.std.specs.Prelude.{◌≡◌, ℕ, ◌<◌, ◌≤◌, Bool, false, ◌&&◌, ◌==◌, List, [], ◌∷◌, ◌++◌, map, length, slice_get, Some, None, IsTrue, Contains, ◌↔◌, IsPermutation}
use Rattle.std.specs.Prelude.{filter as list_filter}
use Rattle.std.specs.declared.cmp.Ordering.{Ordering}
use Rattle.std.specs.declared.cmp.Ordering.TheVariants.{Equal}
use Rattle.value_core.specs.declared.value.Value.{Value}
use Rattle.value_core.specs.declared.value.ColType.{ColType}
use Rattle.predicate_core.specs.Atoms.{atom_list}
use Rattle.predicate_core.specs.Laws.{EachOnce}
use Rattle.predicate_core.specs.declared.atom.Atom.{Atom}
use Rattle.table_core.specs.Rows.{Row}
use Rattle.table_core.specs.Bag.{has_double}
use Rattle.table_core.specs.declared.task.TaskParts.{TaskParts}
use Rattle.query_core.specs.Tree.{Tree, Select}
use Rattle.query_core.specs.Firsts.{projected, firsts}
use Rattle.query_core.specs.Groups.{aggregate, group_keys, members, grouped}
use Rattle.query_core.specs.Grammar.{Numbered, level_at, levels, skeletons, queries}
use Rattle.query_core.specs.Membership.{atom_before, query_fault}
use Rattle.query_core.specs.Rank.{Key, key, before}
use Rattle.query_core.specs.Answers.{RankedQuery, ascending}
use Rattle.query_core.specs.declared.agg.Agg.{Agg}
use Rattle.query_laws.specs.Parts.{IsPart}
use Rattle.query_core.specs.Skeleton.{operators, is_formed, is_skeleton}

-- a tree stands in the list of skeletons exactly where it is one
abbrev pub ListsSkeletons : TaskParts → Type 0
ListsSkeletons task = (tree : Tree) → IsTrue (is_skeleton task tree) ↔ Contains (skeletons task) tree

-- each level has exactly the skeletons of so many operators
abbrev pub LevelsByOperators : TaskParts → Type 0
LevelsByOperators task = (n : ℕ) (tree : Tree) → n ≤ task.ops → IsTrue (is_formed task tree && (operators tree == n)) ↔ Contains (level_at (levels task task.ops) n) tree

-- the queries of a task, without the numbers of their skeletons
abbrev pub plain_queries : TaskParts → List Select
plain_queries task = map (λ n. n.query) (queries task)

-- a query is one of the grammar exactly where nothing is wrong with it
abbrev pub FaultsDecide : TaskParts → Type 0
FaultsDecide task = (q : Select) → (query_fault task q ≡ None) ↔ Contains (plain_queries task) q

-- each atom of a hole's list stands before each later one
abbrev pub AtomsAscend : List ColType → List Value → Type 0
AtomsAscend types constants =
    (i j : ℕ) (a b : Atom) → i < j → slice_get (atom_list types constants) i ≡ Some a → slice_get (atom_list types constants) j ≡ Some b
    → IsTrue (atom_before a b)

-- the key of a numbered query
abbrev pub key_of : TaskParts → Numbered → Key
key_of task n = key task n.skeleton n.query

-- queries at different places have different keys
abbrev pub KeysApart : TaskParts → Type 0
KeysApart task =
    (i j : ℕ) (a b : Numbered) → slice_get (queries task) i ≡ Some a → slice_get (queries task) j ≡ Some b
    → key_of task a ≡ key_of task b → i ≡ j

-- two keys tie only where they are equal
abbrev pub TiesAreEqual : (Key → Key → Ordering) → Type 0
TiesAreEqual compared = (a b : Key) → compared a b ≡ Equal → a ≡ b

-- the list in ascending order is the list in another order: it has each element as often
abbrev pub AscendingPermutes : {X : Type 0} → (X → X → Bool) → List X → Type 0
AscendingPermutes first xs = IsPermutation xs (ascending first xs)

-- each element of a list comes strictly before each later one
abbrev pub Ascends : List RankedQuery → Type 0
Ascends xs =
    (i j : ℕ) (a b : RankedQuery) → i < j → slice_get xs i ≡ Some a → slice_get xs j ≡ Some b
    → IsTrue (before a.key b.key)

-- what a row behind others adds to their first copies: nothing where it stands among them, itself at the end where it doesn't
abbrev pub AddsFirstCopy : List Row → Row → Type 0
AddsFirstCopy rows row =
    (Contains rows row → firsts (rows ++ row ∷ []) ≡ firsts rows)
    × ((Contains rows row → ⊥) → firsts (rows ++ row ∷ []) ≡ firsts rows ++ row ∷ [])

-- first copies: each once, those of the rows, in their order; rows without doubles are their own first copies; and the first of equal rows is kept
abbrev pub AreFirstCopies : List Row → Type 0
AreFirstCopies rows =
    EachOnce (firsts rows)
    × ((row : Row) → Contains rows row ↔ Contains (firsts rows) row)
    × IsPart (firsts rows) rows
    × (has_double rows ≡ false → firsts rows ≡ rows)
    × ((row : Row) → AddsFirstCopy rows row)

-- each group's key stands once; each row is a member of its own key's group, and of no other
abbrev pub GroupsByKey : List ℕ → List Row → Type 0
GroupsByKey keys rows =
    EachOnce (group_keys keys rows)
    × ((row : Row) → Contains rows row → Contains (group_keys keys rows) (projected keys row))
    × ((row key : Row) → Contains (members keys rows key) row ↔ (Contains rows row × (projected keys row ≡ key)))

-- with key columns each group has a member
abbrev pub GroupsHaveMembers : ℕ → List ℕ → List Row → Type 0
GroupsHaveMembers first others rows =
    (key : Row) → Contains (group_keys (first ∷ others) rows) key → (row : Row) × Contains (members (first ∷ others) rows key) row

-- the row of a group whose key and members are these
abbrev pub IsGroupRow : Agg → Row → List Row → Row → Type 0
IsGroupRow agg key group row = (value : Value) × (aggregate agg group ≡ Some value) × (row ≡ key ++ value ∷ [])

-- the rows of the groups: for each key, in order, the row of its members
abbrev pub GroupsByMembers : List ℕ → Agg → List Row → Type 0
GroupsByMembers keys agg rows =
    (out : List Row) → grouped keys agg rows ≡ Some out
    → (length out ≡ length (group_keys keys rows))
    × ((i : ℕ) (key row : Row) → slice_get (group_keys keys rows) i ≡ Some key → slice_get out i ≡ Some row → IsGroupRow agg key (members keys rows key) row)

-- of the rows that a test keeps, a group has the members that it keeps
abbrev pub MembersOfKept : List ℕ → List Row → Row → (Row → Bool) → Type 0
MembersOfKept keys rows key test = members keys (list_filter test rows) key ≡ list_filter test (members keys rows key)

-- where a part of the rows is kept, each group of the part is one of all rows, and its aggregate is that of a part of the group's members
abbrev pub GroupsOfPart : List ℕ → Agg → List Row → List Row → Type 0
GroupsOfPart keys agg part rows =
    IsPart part rows → (out : List Row) → grouped keys agg part ≡ Some out
    → (row : Row) → Contains out row
    → (key : Row) × (group : List Row)
    × Contains (group_keys keys rows) key
    × IsPart group (members keys rows key)
    × IsGroupRow agg key group row
