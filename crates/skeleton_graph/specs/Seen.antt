-- Skeletons by kind and children's numbers, with what is asked of them as parts of others.
use Rattle.std.specs.Prelude.{◌≡◌, ℕ, ◌+◌, ◌-◌, ◌<◌, Bool, true, false, not, ◌&&◌, nat_le, List, [], ◌∷◌, ◌++◌, map, flat_map, length, slice_get, unwrap_or, Some, None, Result, Ok, Err, if◌then◌else◌}
use Rattle.std.specs.List.{range_with_len}
use Rattle.std.specs.Ordering.{nat_cmp, is_gt}
use Rattle.std.specs.Cmp.Lexicographic.{slice_cmp, pointwise}
use Rattle.value_core.specs.Value.{same_type}
use Rattle.value_core.specs.declared.value.ColType.{ColType}
use Rattle.table_core.specs.declared.task.TaskParts.{TaskParts}
use Rattle.query_core.specs.Tree as t
use Rattle.query_core.specs.Meaning.{columns, group_types}
use Rattle.query_core.specs.Grammar.{key_lists, agg_list}
use Rattle.query_core.specs.declared.agg.Agg.{Agg}
use Rattle.query_core.specs.declared.kinds.Pairing.{Pairing}
use Rattle.query_core.specs.declared.kinds.Pairing.TheVariants.{Join, Left}
use Rattle.query_core.specs.declared.kinds.Uniting.TheVariants.{All, Firsts}
use Rattle.skeleton_graph.specs.declared.fault.ListFault.{ListFault}
use Rattle.skeleton_graph.specs.declared.fault.ListFault.TheVariants.{TooMany, OutOfMemory}
use Rattle.skeleton_graph.specs.declared.meeting.Meeting.{Meeting}
use Rattle.skeleton_graph.specs.declared.meeting.Meeting.TheVariants.{Pair, Union}
use Rattle.skeleton_graph.specs.declared.node.Kind.{Kind}
use Rattle.skeleton_graph.specs.declared.node.Kind.TheVariants as kind
use Rattle.skeleton_graph.specs.declared.part.Part.{Part}

-- what is asked of a skeleton as a part of others: its number, whether it takes a filter, the table numbers of its leaves and the types of its columns
pub record Seen : Type 0 where
  pub number : ℕ
  pub takes_filter : Bool
  pub leaves : List ℕ
  pub types : List ColType

-- whether a filter may stand over a kind: not over another filter, nor over a join
abbrev pub kind_takes_filter : Kind → Bool
kind_takes_filter (kind.Base table) = true
kind_takes_filter kind.Filter = false
kind_takes_filter kind.Join = false
kind_takes_filter kind.Left = true
kind_takes_filter (kind.Group keys agg) = true
kind_takes_filter kind.UnionAll = true
kind_takes_filter kind.Union = true

-- an input
abbrev pub base_part : TaskParts → ℕ → Part
base_part task table = record { kind = kind.Base table; left = None; right = None; leaves = table ∷ []; types = columns task.inputs (t.base table) }

-- the inputs
abbrev pub base_parts : TaskParts → List Part
base_parts task = map (base_part task) (range_with_len 0 (length task.inputs))

-- all elements of some levels
abbrev pub all_of : {A : Type 0} → List (List A) → List A
all_of levels = flat_map (λ level. level) levels

-- the filter over a skeleton
abbrev pub filter_part : Seen → Part
filter_part c = record { kind = kind.Filter; left = Some c.number; right = None; leaves = c.leaves; types = c.types }

-- a filter over a skeleton, where it takes one
abbrev pub filter_on : Seen → List Part
filter_on c = if c.takes_filter then filter_part c ∷ [] else []

-- whether two parts have together no more leaves than the task allows
abbrev pub are_few : TaskParts → Seen → Seen → Bool
are_few task a b = nat_le (length a.leaves + length b.leaves) task.leaves

-- whether the first part's leaves don't come after the second's
abbrev pub are_in_order : Seen → Seen → Bool
are_in_order a b = not (is_gt (slice_cmp nat_cmp a.leaves b.leaves))

-- whether two parts may stand in this order in a pair
abbrev pub pair_in_order : Pairing → Seen → Seen → Bool
pair_in_order Join a b = are_in_order a b
pair_in_order Left a b = true

-- whether two parts may meet so
abbrev pub may_meet : TaskParts → Meeting → Seen → Seen → Bool
may_meet task (Pair kind) a b = are_few task a b && pair_in_order kind a b
may_meet task (Union kind) a b = (are_few task a b && are_in_order a b) && pointwise same_type a.types b.types

-- the kind of two parts that meet so, the types of their columns, and the skeleton
abbrev pub met_kind : Meeting → Kind
met_kind (Pair Join) = kind.Join
met_kind (Pair Left) = kind.Left
met_kind (Union All) = kind.UnionAll
met_kind (Union Firsts) = kind.Union

abbrev pub met_types : Meeting → List ColType → List ColType → List ColType
met_types (Pair kind) a b = a ++ b
met_types (Union kind) a b = a

abbrev pub met : Meeting → Seen → Seen → Part
met how a b = record { kind = met_kind how; left = Some a.number; right = Some b.number; leaves = a.leaves ++ b.leaves; types = met_types how a.types b.types }

-- the skeleton of two parts, where they may meet so
abbrev pub pair_on : TaskParts → Meeting → Seen → Seen → List Part
pair_on task how a b = if may_meet task how a b then met how a b ∷ [] else []

-- the skeletons of each part of one list with each of another
abbrev pub pairs_between : TaskParts → Meeting → List Seen → List Seen → List Part
pairs_between task how lefts rights = flat_map (λ a. flat_map (pair_on task how a) rights) lefts

-- the level of a number, empty where there is none
abbrev pub seen_at : List (List Seen) → ℕ → List Seen
seen_at levels n = unwrap_or (slice_get levels n) []

-- the skeletons of a part of this level and one that has as many operators as then are left
abbrev pub pairs_at : TaskParts → Meeting → List (List Seen) → ℕ → List Part
pairs_at task how levels i = pairs_between task how (seen_at levels i) (seen_at levels (length levels - 1 - i))

-- the skeletons of two parts that together have an operator less than so many levels have
abbrev pub pairs_on : TaskParts → Meeting → List (List Seen) → List Part
pairs_on task how levels = flat_map (pairs_at task how levels) (range_with_len 0 (length levels))

-- a group over a skeleton
abbrev pub group_on : Seen → List ℕ → Agg → Part
group_on c keys agg = record { kind = kind.Group keys agg; left = Some c.number; right = None; leaves = c.leaves; types = group_types c.types keys agg }

-- the groups over a skeleton with these keys
abbrev pub keyed_on : TaskParts → Seen → List ℕ → List Part
keyed_on task c keys = map (group_on c keys) (agg_list task.aggregates c.types keys)

-- the groups over a skeleton
abbrev pub groups_on : TaskParts → Seen → List Part
groups_on task c = flat_map (keyed_on task c) (key_lists (length c.types))

-- the last level
abbrev pub last_seen : List (List Seen) → List Seen
last_seen levels = seen_at levels (length levels - 1)

-- the first kinds of the next level: filters, joins and left joins
abbrev pub first_kinds : TaskParts → List (List Seen) → List Part
first_kinds task levels = flat_map filter_on (last_seen levels) ++ (pairs_on task (Pair Join) levels ++ pairs_on task (Pair Left) levels)

-- the last kinds: groups and unions
abbrev pub last_kinds : TaskParts → List (List Seen) → List Part
last_kinds task levels = flat_map (groups_on task) (last_seen levels) ++ (pairs_on task (Union All) levels ++ pairs_on task (Union Firsts) levels)

-- the next level
abbrev pub next_parts : TaskParts → List (List Seen) → List Part
next_parts task levels = first_kinds task levels ++ last_kinds task levels

-- what a function that lists skeletons answers: they stand after the earlier ones, or there are more than there is room for
abbrev pub Lists : ℕ → List Part → List Part → List Part → Result Unit ListFault → Type 0
Lists room old new more (Ok _) = new ≡ old ++ more
Lists room old new more (Err TooMany) = room < length old + length more
Lists room old new more (Err OutOfMemory) = Unit {0}
