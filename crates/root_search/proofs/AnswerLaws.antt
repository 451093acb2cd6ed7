-- The answers of a task are those of its skeletons' standard fillings, read off bits.
use Rattle.std.proofs.Common.{◌≡◌, ◌+◌, ℕ, append_assoc, Bool, true, false, ◌&&◌, ◌==◌, List, [], ◌∷◌, ◌++◌, map, length, Option, Some, None, is_some, refl, sym, ap, subst, ◌∙◌, inl, inr, zero, suc, eq-eqb, if◌then◌else◌}
use Rattle.std.specs.Prelude.{filter as list_filter, slice_get, All}
use Rattle.std.specs.List.{flat_map, enumerate_from}
use Rattle.std.proofs.lemmas.List.{map-append, append-nil, length-map}
use Rattle.std.proofs.lemmas.List.Elements.{filter-append, All-cons, All-nil}
use Rattle.std.proofs.lemmas.Option.{same_Some}
use Rattle.value_core.specs.declared.value.ColType.{ColType}
use Rattle.predicate_core.specs.declared.pred.Pred.{Pred}
use Rattle.predicate_core.proofs.OnceLists.{In, in_map}
use Rattle.table_core.specs.Rows.{Row, types_of}
use Rattle.table_core.specs.declared.task.TaskParts.{TaskParts}
use Rattle.query_core.specs.Tree.{Tree, Select}
use Rattle.query_core.specs.Tree as t
use Rattle.query_core.specs.Meaning.{columns, rows}
use Rattle.query_core.specs.Grammar.{Numbered, maps, places_of, with_flags, queries_of_body, queries_of, fillings, numbered, skeletons}
use Rattle.query_core.specs.Membership.{query_fault}
use Rattle.query_core.specs.Standard.{rows_or_none, is_standard_tree}
use Rattle.query_core.specs.Answers.{RankedQuery, ranked, is_answer, found}
use Rattle.query_core.specs.Filled.{tree_preds, is_filled, filled, standard_fillings}
use Rattle.query_core.proofs.MapLaws.{flat_map_twice, flat_map_none, kept_joined}
use Rattle.query_laws.specs.Laws.{plain_queries, FaultsDecide}
use Rattle.query_laws.proofs.FilledLaws.{filled_of, fillings_kept}
use Rattle.query_laws.proofs.ListLaws.{in_contains}
use Rattle.query_laws.proofs.MemberLaws.{in_flat_map, in_kept, in_equal, flat_map_in as in_flat}
use Rattle.query_laws.proofs.QueryLaws.{plain_queries_are, opened, opened_fillings, opened_skeletons}
use Rattle.root_search.specs.Answers.{given, with_preds, query_of, answer_by, answers_by, answers_on, root_answers, FillingFits}
use Rattle.root_search.specs.Laws.{FillingsFit, AnswersByRoots}
use Rattle.root_search.specs.Targets.{rows_give}

-- a tree's own predicates, put into its holes, give the tree, and what stands behind them is left
given_own : (x : Tree) (rest : List Pred) → given (opened x) (tree_preds x ++ rest) ≡ record { tree = x; left = rest }
given_own (t.base table) rest = refl
given_own (t.filter child p) rest = rw (append_assoc (tree_preds child) (p ∷ []) rest, given_own child (p ∷ rest)) refl
given_own (t.pair kind a b p) rest =
    rw (append_assoc (tree_preds a ++ tree_preds b) (p ∷ []) rest, append_assoc (tree_preds a) (tree_preds b) (p ∷ rest), given_own a (tree_preds b ++ p ∷ rest), given_own b (p ∷ rest)) refl
given_own (t.group child keys agg) rest = rw (given_own child rest) refl
given_own (t.unite kind a b) rest = rw (append_assoc (tree_preds a) (tree_preds b) rest, given_own a (tree_preds b ++ rest), given_own b rest) refl

-- a filling of a skeleton is the skeleton with the filling's predicates
pub refilled_is : (task : TaskParts) (s x : Tree) → opened s ≡ s → In x (fillings task s) → with_preds s (tree_preds x) ≡ x
refilled_is task s x is_open i =
    ap (λ u. with_preds u (tree_preds x)) (sym (opened_fillings task s x i ∙ is_open))
    ∙ ap (λ ps. with_preds (opened x) ps) (sym (append-nil (tree_preds x)))
    ∙ ap (λ g. g.tree) (given_own x [])

-- each map has as many columns as the output
length_maps : (body types : List ColType) (picks : List ℕ) → In picks (maps body types) → length picks ≡ length types
length_maps body [] picks (inl e) = ap length e
length_maps body [] picks (inr i) = absurd i
length_maps body (type ∷ types) picks i =
    let h = in_flat_map (λ at. map (λ rest. at ∷ rest) (maps body types)) picks (places_of type 0 body) i in
    let g = in_map (λ rest. h.0 ∷ rest) picks (maps body types) h.2 in
    ap length g.2 ∙ ap (λ n. suc n) (length_maps body types g.0 g.1)

-- what two functions give of a list, where they give the same of each of its elements
flat_map_in : {A B : Type 0} (f g : A → List B) (xs : List A) → ((x : A) → In x xs → f x ≡ g x) → flat_map f xs ≡ flat_map g xs
flat_map_in f g [] same = refl
flat_map_in f g (x ∷ xs) same = ap (λ t. t ++ flat_map f xs) (same x (inl refl)) ∙ ap (λ t. g x ++ t) (flat_map_in f g xs (λ y i. same y (inr i)))

-- the answers among some queries of the skeleton of this number, with their keys
abbrev kept : TaskParts → ℕ → List Select → List RankedQuery
kept task n qs = map (ranked task) (list_filter (is_answer task) (map (λ q. record { skeleton = n; query = q }) qs))

-- a query with the number of its skeleton
abbrev numbered_as : ℕ → Select → Numbered
numbered_as n q = record { skeleton = n; query = q }

abbrev select_of : Tree → List ℕ → Bool → Select
select_of body picks distinct = record { body = body; picks = picks; distinct = distinct }

and_false : (a : Bool) → (a && false) ≡ false
and_false true = refl
and_false false = refl

-- whether a query over a standard tree that has rows is an answer
kept_one : (task : TaskParts) (n : ℕ) (x : Tree) (picks : List ℕ) (distinct : Bool) (found : List Row) → rows task.inputs task.constants x ≡ Some found → is_standard_tree task x ≡ true → (length picks == length task.output.columns) ≡ true
    → is_answer task (numbered_as n (select_of x picks distinct)) ≡ rows_give picks distinct (rows_or_none task x) task.output.rows
kept_one task n x picks distinct found has standard wide = rw (has, standard, wide) refl

kept_single : (task : TaskParts) (n : ℕ) (s x : Tree) (picks : List ℕ) (distinct : Bool) (found : List Row) → with_preds s (tree_preds x) ≡ x → rows task.inputs task.constants x ≡ Some found → is_standard_tree task x ≡ true → (length picks == length task.output.columns) ≡ true
    → kept task n (select_of x picks distinct ∷ []) ≡ answer_by task n s (filled task x) picks distinct
kept_single task n s x picks distinct found own has standard wide =
    rw (kept_one task n x picks distinct found has standard wide) (answer_or_not (rows_give picks distinct (rows_or_none task x) task.output.rows))
    ∙ ap (λ body. if rows_give picks distinct (rows_or_none task x) task.output.rows then ranked task (numbered_as n (select_of body picks distinct)) ∷ [] else []) (sym own)
  where
    answer_or_not : (b : Bool) → map (ranked task) (if b then numbered_as n (select_of x picks distinct) ∷ [] else []) ≡ (if b then ranked task (numbered_as n (select_of x picks distinct)) ∷ [] else [])
    answer_or_not true = refl
    answer_or_not false = refl

kept_append : (task : TaskParts) (n : ℕ) (xs ys : List Select) → kept task n (xs ++ ys) ≡ kept task n xs ++ kept task n ys
kept_append task n xs ys =
    ap (λ qs. map (ranked task) (list_filter (is_answer task) qs)) (map-append (numbered_as n) xs ys)
    ∙ ap (map (ranked task)) (filter-append (is_answer task) (map (numbered_as n) xs) (map (numbered_as n) ys))
    ∙ map-append (ranked task) (list_filter (is_answer task) (map (numbered_as n) xs)) (list_filter (is_answer task) (map (numbered_as n) ys))

kept_of_joined : {A : Type 0} (task : TaskParts) (n : ℕ) (f : A → List Select) (xs : List A) → kept task n (flat_map f xs) ≡ flat_map (λ x. kept task n (f x)) xs
kept_of_joined task n f [] = refl
kept_of_joined task n f (x ∷ xs) = kept_append task n (f x) (flat_map f xs) ∙ ap (λ t. kept task n (f x) ++ t) (kept_of_joined task n f xs)

-- what is kept of the queries of a tree that is standard and has rows
kept_some : (task : TaskParts) (n : ℕ) (s x : Tree) (found : List Row) → with_preds s (tree_preds x) ≡ x → rows task.inputs task.constants x ≡ Some found → is_standard_tree task x ≡ true
    → kept task n (queries_of_body task x) ≡ answers_on task n s (filled task x)
kept_some task n s x found own has standard =
    let picked = maps (columns task.inputs x) (types_of task.output) in
    kept_of_joined task n (with_flags x) picked
    ∙ flat_map_in (λ picks. kept task n (with_flags x picks)) (answers_by task n s (filled task x)) picked
    (λ picks i.
    let wide : (length picks == length task.output.columns) ≡ true = eq-eqb _ _ (length_maps (columns task.inputs x) (types_of task.output) picks i ∙ length-map task.output.columns _) in
    kept_append task n (select_of x picks false ∷ []) (select_of x picks true ∷ [])
    ∙ ap (λ t. t ++ kept task n (select_of x picks true ∷ [])) (kept_single task n s x picks false found own has standard wide)
    ∙ ap (λ t. answer_by task n s (filled task x) picks false ++ t) (kept_single task n s x picks true found own has standard wide))

-- what is kept of the queries of any other tree
none_answers : (task : TaskParts) (n : ℕ) (x : Tree) (picks : List ℕ) (distinct : Bool) (o : Option (List Row)) (b : Bool) → rows task.inputs task.constants x ≡ o → is_standard_tree task x ≡ b → is_some o && b ≡ false
    → is_answer task (numbered_as n (select_of x picks distinct)) ≡ false
none_answers task n x picks distinct o false has standard not_both = rw standard refl
none_answers task n x picks distinct (Some found) true has standard not_both = cc
none_answers task n x picks distinct None true has standard not_both = rw (has, standard) (and_false _)

kept_none : (task : TaskParts) (n : ℕ) (x : Tree) (o : Option (List Row)) (b : Bool) → rows task.inputs task.constants x ≡ o → is_standard_tree task x ≡ b → is_some o && b ≡ false → kept task n (queries_of_body task x) ≡ []
kept_none task n x o b has standard not_both =
    kept_of_joined task n (with_flags x) (maps (columns task.inputs x) (types_of task.output))
    ∙ flat_map_none (λ picks. kept task n (with_flags x picks)) (maps (columns task.inputs x) (types_of task.output))
    (λ picks. rw (none_answers task n x picks false o b has standard not_both, none_answers task n x picks true o b has standard not_both) refl)

kept_body : (task : TaskParts) (n : ℕ) (s x : Tree) (o : Option (List Row)) (b : Bool) → with_preds s (tree_preds x) ≡ x → rows task.inputs task.constants x ≡ o → is_standard_tree task x ≡ b
    → kept task n (queries_of_body task x) ≡ flat_map (answers_on task n s) (filled_of task x)
kept_body task n s x None b own has standard = kept_none task n x None b has standard refl ∙ rw has refl
kept_body task n s x (Some found) false own has standard = kept_none task n x (Some found) false has standard refl ∙ rw (has, standard) refl
kept_body task n s x (Some found) true own has standard =
    let one : filled_of task x ≡ filled task x ∷ [] = rw (has, standard) refl in
    kept_some task n s x found own has standard ∙ sym (ap (flat_map (answers_on task n s)) one ∙ append-nil (answers_on task n s (filled task x)))

-- what is kept of the queries of a skeleton
kept_skeleton : (task : TaskParts) (s : ℕ × Tree) → opened s.1 ≡ s.1 → kept task s.0 (queries_of task s.1) ≡ root_answers task s
kept_skeleton task s is_open =
    kept_of_joined task s.0 (queries_of_body task) (fillings task s.1)
    ∙ flat_map_in (λ x. kept task s.0 (queries_of_body task x)) (λ x. flat_map (answers_on task s.0 s.1) (filled_of task x)) (fillings task s.1)
    (λ x i. kept_body task s.0 s.1 x (rows task.inputs task.constants x) (is_standard_tree task x) (refilled_is task s.1 x is_open i) refl refl)
    ∙ sym (flat_map_twice (answers_on task s.0 s.1) (filled_of task) (fillings task s.1))
    ∙ ap (flat_map (answers_on task s.0 s.1)) (fillings_kept task s.1)

pub in_numbered : (k : ℕ) (trees : List Tree) (s : ℕ × Tree) → In s (enumerate_from k trees) → In s.1 trees
in_numbered k [] s i = absurd i
in_numbered k (x ∷ trees) s (inl e) = inl (ap (λ p. p.1) e)
in_numbered k (x ∷ trees) s (inr i) = inr (in_numbered (k + 1) trees s i)

-- the answers among the queries of some skeletons are those of their standard fillings, in order
pub answers_of : (task : TaskParts) (ss : List (ℕ × Tree)) → ((s : ℕ × Tree) → In s ss → In s.1 (skeletons task)) → map (ranked task) (list_filter (is_answer task) (flat_map (numbered task) ss)) ≡ flat_map (root_answers task) ss
answers_of task ss listed =
    kept_joined (ranked task) (is_answer task) (numbered task) ss
    ∙ flat_map_in (λ s. map (ranked task) (list_filter (is_answer task) (numbered task s))) (root_answers task) ss
    (λ s i. kept_skeleton task s (opened_skeletons task s.1 (listed s i)))

-- the answers of a task are those of its skeletons, in order
pub answers_are : (task : TaskParts) → AnswersByRoots task
answers_are task = answers_of task (enumerate_from 0 (skeletons task)) (λ s i. in_numbered 0 (skeletons task) s i)

-- the queries of a skeleton's standard fillings are of the grammar

all_in : {X : Type 0} (P : X → Type 0) (xs : List X) → ((x : X) → In x xs → P x) → All P xs
all_in P [] each = All-nil P
all_in P (x ∷ xs) each = All-cons P x xs (each x (inl refl)) (all_in P xs (λ y i. each y (inr i)))

in_at : {X : Type 0} (xs : List X) (n : ℕ) (x : X) → slice_get xs n ≡ Some x → In x xs
in_at [] n x there = cc
in_at (y ∷ ys) zero x there = inl (sym (same_Some y x there))
in_at (y ∷ ys) (suc n) x there = inr (in_at ys n x there)

in_with_flags : (x : Tree) (picks : List ℕ) (distinct : Bool) → In (select_of x picks distinct) (with_flags x picks)
in_with_flags x picks false = inl refl
in_with_flags x picks true = inr (inl refl)

pub fillings_fit : (task : TaskParts) → FaultsDecide task → FillingsFit task
fillings_fit task decide n s there =
    let listed : In s (skeletons task) = in_at (skeletons task) n s there in
    let is_open = opened_skeletons task s listed in
    all_in (FillingFits task s) (standard_fillings task s) (λ f i.
    let h = in_kept (filled task) (is_filled task) f (fillings task s) i in
    let own = refilled_is task s h.0 is_open h.1 in
    let fits : FillingFits task s (filled task h.0) =
    all_in (λ picks. (distinct : Bool) → query_fault task (query_of s (tree_preds h.0) picks distinct) ≡ None) (maps (columns task.inputs h.0) (types_of task.output)) (λ picks j distinct.
    let q = select_of h.0 picks distinct in
    let of_body : In q (queries_of_body task h.0) = in_flat (with_flags h.0) q picks (maps (columns task.inputs h.0) (types_of task.output)) j (in_with_flags h.0 picks distinct) in
    let of_skeleton : In q (queries_of task s) = in_flat (queries_of_body task) q h.0 (fillings task s) h.1 of_body in
    let of_task : In q (plain_queries task) = in_equal q _ _ (sym (plain_queries_are task)) (in_flat (queries_of task) q s (skeletons task) listed of_skeleton) in
    ap (λ body. query_fault task (select_of body picks distinct)) own ∙ (decide q).1 (in_contains (plain_queries task) q of_task)) in
    subst (FillingFits task s) (sym h.3) fits)
