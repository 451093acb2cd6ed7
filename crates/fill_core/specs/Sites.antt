-- What a node makes of its parts' entries.
use Rattle.std.specs.Prelude.{ℕ, ◌*◌, List, [], ◌∷◌, ◌++◌, flat_map, length}
use Rattle.value_core.specs.declared.value.ColType.{ColType}
use Rattle.table_core.specs.Rows.{types_of}
use Rattle.table_core.specs.declared.task.TaskParts.{TaskParts}
use Rattle.query_core.specs.Meaning.{input_at, group_types}
use Rattle.query_core.specs.Filled.{Filled, filled_base, filled_filters, filled_pairs, filled_groups, filled_union}
use Rattle.fill_core.specs.View.{entry_filled}
use Rattle.fill_core.specs.declared.fillings.Entry.{Entry}
use Rattle.fill_core.specs.declared.site.Unary.{Unary}
use Rattle.fill_core.specs.declared.site.Unary.TheVariants as one
use Rattle.fill_core.specs.declared.site.Binary.{Binary}
use Rattle.fill_core.specs.declared.site.Binary.TheVariants as two
use Rattle.fill_core.specs.declared.site.Site.{Site}
use Rattle.fill_core.specs.declared.site.Site.TheVariants as site

-- the fillings of an operator over an entry whose columns have these types
abbrev pub unary_filled : TaskParts → Unary → List ColType → Entry → List Filled
unary_filled task one.Filter types child = filled_filters task (entry_filled types child)
unary_filled task (one.Group keys agg) types child = filled_groups keys.now agg (entry_filled types child)

-- the fillings of an operator over two entries whose columns have these types
abbrev pub binary_filled : TaskParts → Binary → List ColType → List ColType → Entry → Entry → List Filled
binary_filled task (two.Pair kind) left right a b = filled_pairs task kind (entry_filled left a) (entry_filled right b)
binary_filled task (two.Unite kind) left right a b = filled_union kind (entry_filled left a) (entry_filled right b) ∷ []

-- those over a left entry and each right one
abbrev pub binary_with : TaskParts → Binary → List ColType → List ColType → List Entry → Entry → List Filled
binary_with task op left right others a = flat_map (binary_filled task op left right a) others

-- the fillings of a node over its parts' entries
abbrev pub site_filled : TaskParts → Site → List Filled
site_filled task (site.Base table) = filled_base task table ∷ []
site_filled task (site.Over op child) = flat_map (unary_filled task op child.now.types) child.now.entries
site_filled task (site.Between op a b) = flat_map (binary_with task op a.now.types b.now.types b.now.entries) a.now.entries

-- how many combinations of its parts' entries a node has: one where it has no part
abbrev pub site_combos : Site → ℕ
site_combos (site.Base table) = 1
site_combos (site.Over op child) = length child.now.entries
site_combos (site.Between op a b) = length a.now.entries * length b.now.entries

-- the types of an operator's columns, by its parts'
abbrev pub unary_types : Unary → List ColType → List ColType
unary_types one.Filter child = child
unary_types (one.Group keys agg) child = group_types child keys.now agg

abbrev pub binary_types : Binary → List ColType → List ColType → List ColType
binary_types (two.Pair kind) left right = left ++ right
binary_types (two.Unite kind) left right = left

-- the types of a node's columns
abbrev pub site_types : TaskParts → Site → List ColType
site_types task (site.Base table) = types_of (input_at task.inputs table)
site_types task (site.Over op child) = unary_types op child.now.types
site_types task (site.Between op a b) = binary_types op a.now.types b.now.types
