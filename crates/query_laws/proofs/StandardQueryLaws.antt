-- The standard form of a query: in the grammar, standard, with the same rows, and the query itself where it is standard.
use Rattle.std.proofs.Common.{◌≡◌, refl, sym, ap, ap₂, subst, ◌∙◌, ℕ, ◌≤◌, Bool, true, false, not, ◌&&◌, ◌||◌, inl, inr, List, [], Option, Some, None, if◌then◌else◌, arith}
use Rattle.std.specs.Prelude.{nat_le, unwrap_or, option_map}
use Rattle.std.proofs.lemmas.Bool.{and_parts, and_from, leb-true, le-leb}
use Rattle.predicate_core.proofs.OnceLists.{In}
use Rattle.table_core.specs.Rows.{Row, types_of}
use Rattle.table_core.specs.Bag.{has_double}
use Rattle.table_core.specs.declared.task.TaskParts.{TaskParts}
use Rattle.query_core.specs.Tree.{Tree, Select}
use Rattle.query_core.specs.Firsts.{firsts}
use Rattle.query_core.specs.Meaning.{columns, rows, selected, given_rows, given}
use Rattle.query_core.specs.Grammar.{skeletons, maps, fillings, with_flags, queries_of_body, queries_of}
use Rattle.query_core.specs.Standard.{rows_or_none, is_standard_tree, std, removes_some, std_query}
use Rattle.query_laws.specs.Laws.{plain_queries}
use Rattle.query_core.specs.Skeleton.{operators, is_formed, is_skeleton}
use Rattle.query_laws.specs.StandardForm.{FormsAreQueries, FormsAreStandard, FormsGiveTheSame, StandardStays}
use Rattle.query_laws.proofs.ListLaws.{contains_in, in_contains}
use Rattle.query_laws.proofs.MemberLaws.{in_equal, in_flat_map, flat_map_in}
use Rattle.query_laws.proofs.FirstCopyLaws.{firsts_single}
use Rattle.query_laws.proofs.QueryLaws.{opened, opened_fillings, opened_skeletons, in_queries_of, plain_queries_are}
use Rattle.query_laws.proofs.SkeletonLaws.{lists_skeletons}
use Rattle.query_laws.proofs.StandardTreeLaws.{columns_std, operators_std, rows_std, standard_std, standard_same}
use Rattle.query_laws.proofs.StandardFillingLaws.{operators_opened, formed_std, HolesFit, filling_fits, fits_filling, fits_std}

-- what a query of the grammar says of itself: its skeleton is one, its predicates are of their holes, and its map is one of the body's
abbrev pub Belongs : TaskParts → Select → Type 0
Belongs task q = (is_skeleton task (opened q.body) ≡ true) × HolesFit task q.body × In q.picks (maps (columns task.inputs q.body) (types_of task.output))

pub in_belongs : (task : TaskParts) (q : Select) → In q (plain_queries task) → Belongs task q
in_belongs task q i =
    let h = in_flat_map (queries_of task) q (skeletons task) (in_equal q _ _ (plain_queries_are task) i) in
    let g = in_queries_of task h.0 q h.2 in
    let own : opened q.body ≡ h.0 = opened_fillings task h.0 q.body g.0 ∙ opened_skeletons task h.0 h.1 in
    let listed = (lists_skeletons task h.0).1 (in_contains (skeletons task) h.0 h.1) in
    (ap (is_skeleton task) own ∙ listed, filling_fits task h.0 q.body g.0, g.1)

flags_in : (body : Tree) (picks : List ℕ) (distinct : Bool) → In (record { body = body; picks = picks; distinct = distinct }) (with_flags body picks)
flags_in body picks false = inl refl
flags_in body picks true = inr (inl refl)

pub belongs_in : (task : TaskParts) (q : Select) → Belongs task q → In q (plain_queries task)
belongs_in task q is =
    let skeleton = opened q.body in
    let listed = contains_in (skeletons task) skeleton ((lists_skeletons task skeleton).0 is.0) in
    let of_body = flat_map_in (with_flags q.body) q q.picks (maps (columns task.inputs q.body) (types_of task.output)) is.2 (flags_in q.body q.picks q.distinct) in
    let of_skeleton = flat_map_in (queries_of_body task) q q.body (fillings task skeleton) (fits_filling task q.body is.1) of_body in
    in_equal q _ _ (sym (plain_queries_are task)) (flat_map_in (queries_of task) q skeleton (skeletons task) listed of_skeleton)

-- the skeleton of the standard form is one
skeleton_std : (task : TaskParts) (tree : Tree) → is_skeleton task (opened tree) ≡ true → is_skeleton task (opened (std task tree)) ≡ true
skeleton_std task tree is =
    let h = and_parts (is_formed task (opened tree)) (nat_le (operators (opened tree)) task.ops) is in
    let within = leb-true (operators (opened tree)) task.ops h.1 in
    let fewer : operators (opened (std task tree)) ≤ task.ops = omega (arith, within, operators_std task tree, operators_opened tree, operators_opened (std task tree)) in
    and_from (is_formed task (opened (std task tree))) (nat_le (operators (opened (std task tree))) task.ops) (formed_std task tree h.0) (le-leb (operators (opened (std task tree))) task.ops fewer)

belongs_std : (task : TaskParts) (q : Select) → Belongs task q → Belongs task (std_query task q)
belongs_std task q is = (
  skeleton_std task q.body is.0,
  fits_std task q.body is.1,
  subst (λ types. In q.picks (maps types (types_of task.output))) (sym (columns_std task q.body)) is.2,
)

-- duplicates are removed only where there are some
flag_standard : (distinct double : Bool) → (not (distinct && double) || double) ≡ true
flag_standard true true = refl
flag_standard true false = refl
flag_standard false true = refl
flag_standard false false = refl

flag_stays : (distinct double : Bool) → (not distinct || double) ≡ true → (distinct && double) ≡ distinct
flag_stays true true e = refl
flag_stays true false e = e
flag_stays false double e = refl

-- rows without doubles stay as they are where duplicates are removed
rows_of_flag : (distinct double : Bool) (xs : List Row) → has_double xs ≡ double → (if distinct && double then firsts xs else xs) ≡ (if distinct then firsts xs else xs)
rows_of_flag true true xs e = refl
rows_of_flag true false xs e = sym (firsts_single xs e)
rows_of_flag false double xs e = refl

rows_given : (picks : List ℕ) (distinct : Bool) (found : Option (List Row))
    → option_map (given_rows picks (distinct && has_double (selected picks (unwrap_or found [])))) found ≡ option_map (given_rows picks distinct) found
rows_given picks distinct None = refl
rows_given picks distinct (Some rows) = ap Some (rows_of_flag distinct (has_double (selected picks rows)) (selected picks rows) refl)

-- the laws
pub forms_are_queries : (task : TaskParts) → FormsAreQueries task
forms_are_queries task q c =
    in_contains (plain_queries task) (std_query task q) (belongs_in task (std_query task q) (belongs_std task q (in_belongs task q (contains_in (plain_queries task) q c))))

pub forms_are_standard : (task : TaskParts) → FormsAreStandard task
forms_are_standard task q =
    let double = has_double (selected q.picks (rows_or_none task (std task q.body))) in
    and_from (is_standard_tree task (std task q.body)) (not (q.distinct && double) || double) (standard_std task q.body) (flag_standard q.distinct double)

pub forms_give_the_same : (task : TaskParts) → FormsGiveTheSame task
forms_give_the_same task q =
    rows_given q.picks q.distinct (rows task.inputs task.constants (std task q.body)) ∙ ap (option_map (given q)) (rows_std task q.body)

pub standard_stays : (task : TaskParts) → StandardStays task
standard_stays task q is =
    let double = has_double (selected q.picks (rows_or_none task q.body)) in
    let h = and_parts (is_standard_tree task q.body) (not q.distinct || double) is in
    let body = standard_same task q.body h.0 in
    let make : Tree → Bool → Select = λ body distinct. record { body = body; picks = q.picks; distinct = distinct } in
    ap₂ make body (ap (removes_some task q) body ∙ flag_stays q.distinct double h.1)
