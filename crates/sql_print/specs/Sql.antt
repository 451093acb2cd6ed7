-- The SQL text of a query.
use Rattle.std.specs.Prelude.{ℕ, ◌+◌, Bool, true, false, List, [], ◌∷◌, ◌++◌, map, flat_map, length, codes, ◌==◌, slice_get, unwrap_or, if◌then◌else◌}
use Rattle.std.specs.List.{range_with_len, zip}
use Rattle.std.specs.Fmt.{decimal, signed_decimal}
use Rattle.value_core.specs.declared.value.Value.{Value}
use Rattle.value_core.specs.declared.value.Value.TheVariants.{Null, Int, Text}
use Rattle.value_core.specs.declared.comparison.CmpOp.{CmpOp}
use Rattle.value_core.specs.declared.comparison.CmpOp.TheVariants.{Eq, Ne, Lt, Le, Gt, Ge}
use Rattle.predicate_core.specs.Truth.{value_at}
use Rattle.predicate_core.specs.declared.atom.Atom.{Atom}
use Rattle.predicate_core.specs.declared.atom.Atom.TheVariants.{Cols, Const, IsNull, NotNull}
use Rattle.predicate_core.specs.declared.pred.Pred.{Pred}
use Rattle.predicate_core.specs.declared.pred.Pred.TheVariants.{Always, One, And2, Or2, And3, Or3}
use Rattle.table_core.specs.declared.column.Column.{Column}
use Rattle.table_core.specs.declared.task.TaskParts.{TaskParts}
use Rattle.query_core.specs.Tree.{Tree, Select}
use Rattle.query_core.specs.Tree as t
use Rattle.query_core.specs.declared.agg.Agg.{Agg}
use Rattle.query_core.specs.declared.agg.Agg.TheVariants.{CountAll, Count, CountDistinct, Sum, Min, Max}
use Rattle.query_core.specs.declared.kinds.Pairing.{Pairing}
use Rattle.query_core.specs.declared.kinds.Pairing.TheVariants.{Join, Left}
use Rattle.query_core.specs.declared.kinds.Uniting.{Uniting}
use Rattle.query_core.specs.declared.kinds.Uniting.TheVariants.{All, Firsts}
use Rattle.sql_print.specs.declared.part.Place.{Place}
use Rattle.sql_print.specs.declared.part.Place.TheVariants.{Among, AfterFrom}
use Rattle.query_core.specs.Meaning.{input_at}

-- a byte, twice where it is the mark
abbrev pub doubled : ℕ → ℕ → List ℕ
doubled mark byte = if byte == mark then byte ∷ byte ∷ [] else byte ∷ []

-- a text between two marks, with each mark in it doubled
abbrev pub quoted : ℕ → List ℕ → List ℕ
quoted mark text = mark ∷ (flat_map (doubled mark) text ++ mark ∷ [])

-- a name as SQL quotes it
abbrev pub quoted_name : List ℕ → List ℕ
quoted_name = quoted 34

-- a value as SQL writes it
abbrev pub literal : Value → List ℕ
literal Null = codes "NULL"
literal (Int n) = signed_decimal n
literal (Text s) = quoted 39 s

-- a comparison as SQL writes it
abbrev pub operator : CmpOp → List ℕ
operator Eq = codes "="
operator Ne = codes "<>"
operator Lt = codes "<"
operator Le = codes "<="
operator Gt = codes ">"
operator Ge = codes ">="

-- the texts, with a separator between each two
abbrev pub separated : List ℕ → List (List ℕ) → List ℕ
separated separator [] = []
separated separator (text ∷ texts) = text ++ flat_map (λ t. separator ++ t) texts

-- a text of a list, empty where there is none
abbrev pub text_at : List (List ℕ) → ℕ → List ℕ
text_at texts at = unwrap_or (slice_get texts at) []

-- an atom over columns of these texts
abbrev pub atom_text : List Value → List (List ℕ) → Atom → List ℕ
atom_text constants columns (Cols i op j) = text_at columns i ++ codes " " ++ operator op ++ codes " " ++ text_at columns j
atom_text constants columns (Const i op k) = text_at columns i ++ codes " " ++ operator op ++ codes " " ++ literal (value_at constants k)
atom_text constants columns (IsNull i) = text_at columns i ++ codes " IS NULL"
atom_text constants columns (NotNull i) = text_at columns i ++ codes " IS NOT NULL"

-- a predicate over columns of these texts
abbrev pub pred_text : List Value → List (List ℕ) → Pred → List ℕ
pred_text constants columns Always = codes "1 = 1"
pred_text constants columns (One a) = atom_text constants columns a
pred_text constants columns (And2 a b) = separated (codes " AND ") (map (atom_text constants columns) (a ∷ b ∷ []))
pred_text constants columns (Or2 a b) = separated (codes " OR ") (map (atom_text constants columns) (a ∷ b ∷ []))
pred_text constants columns (And3 a b c) = separated (codes " AND ") (map (atom_text constants columns) (a ∷ b ∷ c ∷ []))
pred_text constants columns (Or3 a b c) = separated (codes " OR ") (map (atom_text constants columns) (a ∷ b ∷ c ∷ []))

-- the alias of a source: s1, s2, ..
abbrev pub alias : ℕ → List ℕ
alias number = codes "s" ++ decimal number

-- the name of a column of a derived source: c1, c2, ..
abbrev pub column_name : ℕ → List ℕ
column_name at = codes "c" ++ decimal (at + 1)

-- a printed part: its text, the texts by which its columns are named, and the number of the next alias
pub record Part : Type 0 where
  pub text : List ℕ
  pub columns : List (List ℕ)
  pub next : ℕ

-- the text by which a column of an input is named
abbrev pub input_column : ℕ → Column → List ℕ
input_column number c = alias number ++ codes "." ++ quoted_name c.name

-- an input as a source with this alias number
abbrev pub input_source : TaskParts → ℕ → ℕ → Part
input_source task table number = record {
  text = quoted_name (input_at task.inputs table).name ++ codes " AS " ++ alias number;
  columns = map (input_column number) (input_at task.inputs table).columns;
  next = number + 1;
}

-- `x AS name`
abbrev pub named : List ℕ → List ℕ → List ℕ
named column name = column ++ codes " AS " ++ name

-- a column under the name that it has in a derived source
abbrev pub renamed : List (List ℕ) → ℕ → List ℕ
renamed columns at = named (text_at columns at) (column_name at)

-- the columns of a part as a select list: `x1 AS c1, x2 AS c2, ..`
abbrev pub all_columns : List (List ℕ) → List ℕ
all_columns columns = separated (codes ", ") (map (renamed columns) (range_with_len 0 (length columns)))

-- `FROM` and a source
abbrev pub from_source : Part → Part
from_source source = record { text = codes "FROM " ++ source.text; columns = source.columns; next = source.next }

-- `FROM`, a source, `WHERE` and a predicate over its columns
abbrev pub from_where : List Value → Part → Pred → Part
from_where constants source p = record {
  text = codes "FROM " ++ source.text ++ codes " WHERE " ++ pred_text constants source.columns p;
  columns = source.columns;
  next = source.next;
}

-- the text by which a column of a derived source is named
abbrev pub derived_column : ℕ → ℕ → List ℕ
derived_column number at = alias number ++ codes "." ++ column_name at

-- a text in parentheses as a derived source of so many columns, under this alias number
abbrev pub enclosed : List ℕ → ℕ → ℕ → Part
enclosed text width number = record {
  text = codes "(" ++ text ++ codes ") AS " ++ alias number;
  columns = map (derived_column number) (range_with_len 0 width);
  next = number + 1;
}

-- a part after `FROM`, selected whole
abbrev pub arm : Part → List ℕ
arm part = codes "SELECT " ++ all_columns part.columns ++ codes " " ++ part.text

-- a part after `FROM`, made a derived source: selected whole, in parentheses, under the next alias
abbrev pub derived : Part → Part
derived part = enclosed (arm part) (length part.columns) part.next

-- the words between the two sources of a pair
abbrev pub pair_words : Pairing → List ℕ
pair_words Join = codes " JOIN "
pair_words Left = codes " LEFT JOIN "

-- the words between the two parts of a union
abbrev pub union_words : Uniting → List ℕ
union_words All = codes " UNION ALL "
union_words Firsts = codes " UNION "

-- whether a tree is a join or a left join, which stands in parentheses on the right of another
abbrev pub is_joined : Tree → Bool
is_joined (t.base table) = false
is_joined (t.filter child p) = false
is_joined (t.pair kind a b p) = true
is_joined (t.group child keys agg) = false
is_joined (t.unite kind a b) = false

-- a text, in parentheses where it has to be
abbrev pub in_parentheses : Bool → List ℕ → List ℕ
in_parentheses nested text = if nested then codes "(" ++ text ++ codes ")" else text

-- two sources joined by these words, with `ON` and a predicate over the columns of both
abbrev pub join_source : List Value → List ℕ → Bool → Pred → Part → Part → Part
join_source constants words nested p left right = record {
  text = left.text ++ words ++ in_parentheses nested right.text ++ codes " ON " ++ pred_text constants (left.columns ++ right.columns) p;
  columns = left.columns ++ right.columns;
  next = right.next;
}

-- two parts, selected whole and joined by these words, as a derived source
abbrev pub union_source : List ℕ → Part → Part → Part
union_source words left right = enclosed (arm left ++ words ++ arm right) (length left.columns) right.next

-- an aggregate over columns of these texts
abbrev pub agg_text : List (List ℕ) → Agg → List ℕ
agg_text columns CountAll = codes "COUNT(*)"
agg_text columns (Count column) = codes "COUNT(" ++ text_at columns column ++ codes ")"
agg_text columns (CountDistinct column) = codes "COUNT(DISTINCT " ++ text_at columns column ++ codes ")"
agg_text columns (Sum column) = codes "SUM(" ++ text_at columns column ++ codes ")"
agg_text columns (Min column) = codes "MIN(" ++ text_at columns column ++ codes ")"
agg_text columns (Max column) = codes "MAX(" ++ text_at columns column ++ codes ")"

-- `GROUP BY` and these texts, nothing where there are none
abbrev pub group_by : List (List ℕ) → List ℕ
group_by [] = []
group_by (text ∷ texts) = codes " GROUP BY " ++ separated (codes ", ") (text ∷ texts)

-- the groups of a part after `FROM`: the keys and the aggregate, selected
abbrev pub group_text : Part → List ℕ → Agg → List ℕ
group_text part keys agg =
    codes "SELECT " ++ all_columns (map (text_at part.columns) keys ++ agg_text part.columns agg ∷ []) ++ codes " " ++ part.text ++ group_by (map (text_at part.columns) keys)

-- the groups as a derived source
abbrev pub group_source : List ℕ → Agg → Part → Part
group_source keys agg part = enclosed (group_text part keys agg) (length keys + 1) part.next

-- a source where it stands: among sources, or alone after `FROM`
abbrev pub placed : Place → Part → Part
placed Among source = source
placed AfterFrom source = from_source source

-- a part with `WHERE` where it stands: a derived source among sources, itself after `FROM`
abbrev pub where_placed : Place → Part → Part
where_placed Among part = derived part
where_placed AfterFrom part = part

-- what two parts make, of which the right one's aliases follow the left one's
abbrev pub of_parts : (Part → Part → Part) → Part → (ℕ → Part) → Part
of_parts f left right = f left (right left.next)

-- a tree where it stands, with aliases from this number on
abbrev pub printed : TaskParts → Tree → Place → ℕ → Part
printed task (t.base table) place number = placed place (input_source task table number)
printed task (t.filter child p) place number = where_placed place (from_where task.constants (printed task child Among number) p)
printed task (t.pair kind a b p) place number =
    placed place (of_parts (join_source task.constants (pair_words kind) (is_joined b) p) (printed task a Among number) (printed task b Among))
printed task (t.group child keys agg) place number = placed place (group_source keys agg (printed task child AfterFrom number))
printed task (t.unite kind a b) place number =
    placed place (of_parts (union_source (union_words kind)) (printed task a AfterFrom number) (printed task b AfterFrom))

-- a tree after `FROM`, with aliases from this number on
abbrev pub from : TaskParts → Tree → ℕ → Part
from task tree number = printed task tree AfterFrom number

-- a picked column under an output column's name
abbrev pub selected : List (List ℕ) → ℕ × Column → List ℕ
selected columns p = named (text_at columns p.0) (quoted_name p.1.name)

-- the select list of a query: each column of the map under its output name
abbrev pub select_list : List (List ℕ) → List ℕ → List Column → List ℕ
select_list columns picks output = separated (codes ", ") (map (selected columns) (zip picks output))

-- the SQL text of a query
abbrev pub sql : TaskParts → Select → List ℕ
sql task q =
    codes "SELECT " ++ (if q.distinct then codes "DISTINCT " else []) ++ select_list (from task q.body 1).columns q.picks task.output.columns
    ++ codes " " ++ (from task q.body 1).text
