-- First copies, and groups by their keys and members.
use Rattle.std.proofs.Common.{sym}
use Rattle.std.specs.Prelude.{ℕ, Bool, List, ◌∷◌}
use Rattle.predicate_core.proofs.OnceLists.{each_once}
use Rattle.table_core.specs.Rows.{Row}
use Rattle.table_core.specs.Bag.{same_cells}
use Rattle.query_core.specs.Firsts.{projected, firsts}
use Rattle.query_core.specs.Groups.{group_keys, members}
use Rattle.query_core.specs.declared.agg.Agg.{Agg}
use Rattle.query_laws.specs.Laws.{AreFirstCopies, GroupsByKey, GroupsHaveMembers, GroupsByMembers, MembersOfKept, GroupsOfPart}
use Rattle.query_laws.proofs.ListLaws.{contains_in, in_contains}
use Rattle.query_laws.proofs.FirstCopyLaws.{filter_swap, in_part, once_firsts, in_firsts, part_firsts, firsts_single, firsts_new, firsts_seen}
use Rattle.query_laws.proofs.GroupLaws.{once_keys, in_keys, row_of_key, keys_of_part, in_members, from_members, members_part, group_row_is, grouped_length, grouped_at, grouped_in}

pub first_copies : (rows : List Row) → AreFirstCopies rows
first_copies rows = (
  each_once (firsts rows) (once_firsts rows),
  λ row. (
    λ c. in_contains (firsts rows) row (in_firsts row rows (contains_in rows row c)),
    λ c. in_contains rows row (in_part row (firsts rows) rows (part_firsts rows) (contains_in (firsts rows) row c)),
  ),
  part_firsts rows,
  firsts_single rows,
  λ row. (
    λ c. firsts_seen rows row (contains_in rows row c),
    λ new. firsts_new rows row (λ i. new (in_contains rows row i)),
  ),
)

pub groups_by_key : (keys : List ℕ) (rows : List Row) → GroupsByKey keys rows
groups_by_key keys rows = (
  each_once (group_keys keys rows) (once_keys keys rows),
  λ row c. in_contains (group_keys keys rows) (projected keys row) (in_keys keys row rows (contains_in rows row c)),
  λ row key. (
    λ c. let h = from_members keys rows row key (contains_in (members keys rows key) row c) in (in_contains rows row h.0, h.1),
    λ h. in_contains (members keys rows key) row (in_members keys rows row key (contains_in rows row h.0) h.1),
  ),
)

pub groups_members : (first : ℕ) (others : List ℕ) (rows : List Row) → GroupsHaveMembers first others rows
groups_members first others rows key c =
    let row = row_of_key first others rows key (contains_in (group_keys (first ∷ others) rows) key c) in
    (row.0, in_contains (members (first ∷ others) rows key) row.0 (in_members (first ∷ others) rows row.0 key row.1 (sym row.2)))

pub groups_by_members : (keys : List ℕ) (agg : Agg) (rows : List Row) → GroupsByMembers keys agg rows
groups_by_members keys agg rows out e = (
  grouped_length keys agg rows out e,
  λ i key row here there. group_row_is keys agg rows key row (grouped_at keys agg rows out e i key row here there),
)

pub members_of_kept : (keys : List ℕ) (rows : List Row) (key : Row) (test : Row → Bool) → MembersOfKept keys rows key test
members_of_kept keys rows key test = filter_swap (λ row. same_cells (projected keys row) key) test rows

pub groups_of_part : (keys : List ℕ) (agg : Agg) (part rows : List Row) → GroupsOfPart keys agg part rows
groups_of_part keys agg part rows h out e row c =
    let group = grouped_in keys agg part out e row (contains_in out row c) in (
      group.0,
      members keys part group.0,
      in_contains (group_keys keys rows) group.0 (keys_of_part keys part rows group.0 h group.1),
      members_part keys part rows group.0 h,
      group_row_is keys agg part group.0 row (sym group.2),
    )
