-- A tree stands in the list of skeletons exactly where it is one.
use Rattle.std.proofs.Common.{◌≡◌, refl, sym, ap, subst, ◌∙◌, ℕ, zero, suc, ◌+◌, ◌<◌, ◌≤◌, Bool, true, false, ◌&&◌, inl, inr, ◌==◌, List, [], ◌∷◌, map, length, add-one, arith}
use Rattle.std.specs.Prelude.{unwrap_or, nat_le, filter as list_filter}
use Rattle.std.specs.List.{flat_map, range_with_len}
use Rattle.std.proofs.lemmas.Bool.{and_parts, and_from, ltb-true, lt-ltb, leb-true, le-leb, eqb-true, eq-eqb, cases_eq}
use Rattle.std.proofs.lemmas.Option.{slice_get_within}
use Rattle.predicate_core.specs.declared.pred.Pred.{Pred}
use Rattle.predicate_core.specs.declared.pred.Pred.TheVariants.{Always}
use Rattle.predicate_core.proofs.OnceLists.{In, in_same, in_map, at_in}
use Rattle.predicate_core.proofs.SameLaws.{same_pred_decides}
use Rattle.table_core.specs.declared.task.TaskParts.{TaskParts}
use Rattle.query_core.specs.Tree.{Tree}
use Rattle.query_core.specs.Tree as t
use Rattle.query_core.specs.Meaning.{columns}
use Rattle.query_core.specs.Grammar.{takes_filter, may_pair, may_unite, level_at, level_pairs, last_level, filters_over, pairs_of, unions_of, key_lists, agg_list, groups_of, next_level, bases, levels, skeletons}
use Rattle.query_core.specs.declared.agg.Agg.{Agg}
use Rattle.query_core.specs.declared.kinds.Pairing.{Pairing}
use Rattle.query_core.specs.declared.kinds.Pairing.TheVariants.{Join, Left}
use Rattle.query_core.specs.declared.kinds.Uniting.{Uniting}
use Rattle.query_core.specs.declared.kinds.Uniting.TheVariants.{All, Firsts}
use Rattle.query_laws.specs.Laws.{ListsSkeletons, LevelsByOperators}
use Rattle.query_core.specs.Skeleton.{operators, is_open, are_keys, is_allowed, is_formed}
use Rattle.query_laws.proofs.ListLaws.{contains_in, in_contains}
use Rattle.query_laws.proofs.MemberLaws.{in_equal, map_in, in_kept, kept_in, in_flat_map, flat_map_in, in_range, range_in, InSix, in_six, six_in}
use Rattle.query_laws.proofs.GroupKeyLaws.{keys_fit, keys_listed, aggs_allowed, aggs_listed}
use Rattle.query_laws.proofs.LevelLaws.{level, levels_length, level_next, level_within, level_before, in_level_pairs, level_pairs_in}

-- a tree is formed and has so many operators
abbrev Stands : TaskParts → ℕ → Tree → Type 0
Stands task n tree = (is_formed task tree ≡ true) × (operators tree ≡ n)

-- two trees are formed and have so many operators together
abbrev Meet : TaskParts → ℕ → Tree × Tree → Type 0
Meet task n p = (is_formed task p.0 ≡ true) × (is_formed task p.1 ≡ true) × (operators p.0 + operators p.1 ≡ n)

-- the kinds of the next level
abbrev InNext : TaskParts → List Tree → List (Tree × Tree) → Tree → Type 0
InNext task last ps tree = InSix tree (filters_over last) (pairs_of task Join ps) (pairs_of task Left ps) (flat_map (groups_of task) last) (unions_of task All ps) (unions_of task Firsts ps)

in_next : (task : TaskParts) (ls : List (List Tree)) (tree : Tree) → In tree (next_level task ls) → InNext task (last_level ls) (level_pairs ls) tree
in_next task ls tree i =
    let last = last_level ls in
    let ps = level_pairs ls in
    in_six tree (filters_over last) (pairs_of task Join ps) (pairs_of task Left ps) (flat_map (groups_of task) last) (unions_of task All ps) (unions_of task Firsts ps) i

next_in : (task : TaskParts) (ls : List (List Tree)) (tree : Tree) → InNext task (last_level ls) (level_pairs ls) tree → In tree (next_level task ls)
next_in task ls tree i =
    let last = last_level ls in
    let ps = level_pairs ls in
    six_in tree (filters_over last) (pairs_of task Join ps) (pairs_of task Left ps) (flat_map (groups_of task) last) (unions_of task All ps) (unions_of task Firsts ps) i

-- what a level has is formed and has so many operators
stands_as : (task : TaskParts) (n : ℕ) (tree other : Tree) → tree ≡ other → Stands task n other → Stands task n tree
stands_as task n tree other e is = rw e is

bases_stand : (task : TaskParts) (tree : Tree) → In tree (bases task) → Stands task 0 tree
bases_stand task tree i =
    let h = in_map t.base tree (range_with_len 0 (length task.inputs)) i in
    let within = in_range 0 (length task.inputs) h.0 h.1 in
    stands_as task 0 tree (t.base h.0) h.2 (lt-ltb h.0 (length task.inputs) (omega (arith, within.1)), refl)

filters_stand : (task : TaskParts) (n : ℕ) (tree : Tree) (last : List Tree) → ((child : Tree) → In child last → Stands task n child) → In tree (filters_over last) → Stands task (suc n) tree
filters_stand task n tree last lasts i =
    let h = in_kept (λ child. t.filter child Always) takes_filter tree last i in
    let child = lasts h.0 h.1 in
    let formed = and_from (is_formed task h.0) (takes_filter h.0 && true) child.0 (and_from (takes_filter h.0) true h.2 refl) in
    stands_as task (suc n) tree (t.filter h.0 Always) h.3 (formed, omega (arith, child.1))

groups_stand : (task : TaskParts) (n : ℕ) (tree : Tree) (last : List Tree) → ((child : Tree) → In child last → Stands task n child) → In tree (flat_map (groups_of task) last) → Stands task (suc n) tree
groups_stand task n tree last lasts i =
    let h = in_flat_map (groups_of task) tree last i in
    let child = lasts h.0 h.1 in
    let types = columns task.inputs h.0 in
    let k = in_flat_map (λ keys. map (t.group h.0 keys) (agg_list task.aggregates types keys)) tree (key_lists (length types)) h.2 in
    let g = in_map (t.group h.0 k.0) tree (agg_list task.aggregates types k.0) k.2 in
    let keyed = keys_fit (length types) k.0 k.1 in
    let allowed = aggs_allowed task.aggregates types k.0 g.0 g.1 in
    let fits = and_from (are_keys (length types) k.0) (is_allowed task.aggregates types k.0 g.0) keyed allowed in
    let formed = and_from (is_formed task h.0) (are_keys (length types) k.0 && is_allowed task.aggregates types k.0 g.0) child.0 fits in
    stands_as task (suc n) tree (t.group h.0 k.0 g.0) g.2 (formed, omega (arith, child.1))

-- what is made of the pairs that pass a test
pairs_stand : (task : TaskParts) (n : ℕ) (tree : Tree) (ps : List (Tree × Tree)) (make : Tree × Tree → Tree) (test : Tree × Tree → Bool)
    → ((p : Tree × Tree) → is_formed task (make p) ≡ ((is_formed task p.0 && is_formed task p.1) && test p))
    → ((p : Tree × Tree) → operators (make p) ≡ (operators p.0 + operators p.1) + 1)
    → ((p : Tree × Tree) → In p ps → Meet task n p) → In tree (map make (list_filter test ps)) → Stands task (suc n) tree
pairs_stand task n tree ps make test formed sized pairs i =
    let h = in_kept make test tree ps i in
    let parts = pairs h.0 h.1 in
    let both = and_from (is_formed task h.0.0) (is_formed task h.0.1) parts.0 parts.1 in
    stands_as task (suc n) tree (make h.0) h.3
    (formed h.0 ∙ and_from (is_formed task h.0.0 && is_formed task h.0.1) (test h.0) both h.2, omega (arith, sized h.0, parts.2))

-- a test that asks nothing more
and_true : (x y : Bool) → (x && (y && true)) ≡ (x && y)
and_true true true = refl
and_true true false = refl
and_true false y = refl

paired_stand : (task : TaskParts) (n : ℕ) (tree : Tree) (kind : Pairing) (ps : List (Tree × Tree)) → ((p : Tree × Tree) → In p ps → Meet task n p) → In tree (pairs_of task kind ps) → Stands task (suc n) tree
paired_stand task n tree kind ps pairs i =
    pairs_stand task n tree ps (λ p. t.pair kind p.0 p.1 Always) (may_pair task kind) (λ p. and_true (is_formed task p.0 && is_formed task p.1) (may_pair task kind p)) (λ p. refl) pairs i

united_stand : (task : TaskParts) (n : ℕ) (tree : Tree) (kind : Uniting) (ps : List (Tree × Tree)) → ((p : Tree × Tree) → In p ps → Meet task n p) → In tree (unions_of task kind ps) → Stands task (suc n) tree
united_stand task n tree kind ps pairs i = pairs_stand task n tree ps (λ p. t.unite kind p.0 p.1) (may_unite task) (λ p. refl) (λ p. refl) pairs i

next_stands : (task : TaskParts) (n : ℕ) (tree : Tree) (last : List Tree) (ps : List (Tree × Tree)) → ((child : Tree) → In child last → Stands task n child)
    → ((p : Tree × Tree) → In p ps → Meet task n p) → InNext task last ps tree → Stands task (suc n) tree
next_stands task n tree last ps lasts pairs (inl i) = filters_stand task n tree last lasts i
next_stands task n tree last ps lasts pairs (inr (inl i)) = paired_stand task n tree Join ps pairs i
next_stands task n tree last ps lasts pairs (inr (inr (inl i))) = paired_stand task n tree Left ps pairs i
next_stands task n tree last ps lasts pairs (inr (inr (inr (inl i)))) = groups_stand task n tree last lasts i
next_stands task n tree last ps lasts pairs (inr (inr (inr (inr (inl i))))) = united_stand task n tree All ps pairs i
next_stands task n tree last ps lasts pairs (inr (inr (inr (inr (inr i))))) = united_stand task n tree Firsts ps pairs i

-- the next level, where the levels so far have what stands
level_stands : (task : TaskParts) (n : ℕ) (tree : Tree) → ((k : ℕ) (part : Tree) → k ≤ n → In part (level task k) → Stands task k part) → In tree (level task (suc n)) → Stands task (suc n) tree
level_stands task n tree below i =
    next_stands task n tree (last_level (levels task n)) (level_pairs (levels task n)) lasts pairs (in_next task (levels task n) tree (in_equal tree _ _ (level_next task n) i))
  where
    lasts : (child : Tree) → In child (last_level (levels task n)) → Stands task n child
    lasts child here = below n child (omega arith) (in_equal child _ _ (level_before task n) here)

    pairs : (p : Tree × Tree) → In p (level_pairs (levels task n)) → Meet task n p
    pairs p here =
        let h = in_level_pairs task n p here in
        let left = below h.0 p.0 (omega (arith, h.2)) h.3 in
        let right = below h.1 p.1 (omega (arith, h.2)) h.4 in
        (left.0, right.0, omega (arith, left.1, right.1, h.2))

-- the same, at a number that is the next one
level_stands_at : (task : TaskParts) (n k : ℕ) (tree : Tree) → k ≡ suc n → ((m : ℕ) (part : Tree) → m ≤ n → In part (level task m) → Stands task m part) → In tree (level task k) → Stands task k tree
level_stands_at task n k tree e below i =
    let P : ℕ → Type 0 = λ m. In tree (level task m) in
    let Q : ℕ → Type 0 = λ m. Stands task m tree in
    subst Q (sym e) (level_stands task n tree below (subst P e i))

-- the levels up to a number have only what stands
sound : (task : TaskParts) (n k : ℕ) (tree : Tree) → k ≤ n → In tree (level task k) → Stands task k tree
sound task zero zero tree within i = bases_stand task tree i
sound task zero (suc k) tree within i = absurd (omega arith)
sound task (suc n) k tree within i =
    elim (cases_eq k (suc n)) [
      | inl e ↦ level_stands_at task n k tree e (sound task n) i
      | inr apart ↦ sound task n k tree (omega arith) i
    ]

-- what the next level has, in the level with an operator more
level_more : (task : TaskParts) (n : ℕ) (tree : Tree) → InNext task (last_level (levels task n)) (level_pairs (levels task n)) tree → In tree (level task (n + 1))
level_more task n tree i =
    let P : ℕ → Type 0 = λ m. In tree (level task m) in
    subst P (sym (add-one n)) (in_equal tree _ _ (sym (level_next task n)) (next_in task (levels task n) tree i))

-- an open predicate is Always
always_is : (p : Pred) → is_open p ≡ true → p ≡ Always
always_is p is = (same_pred_decides p Always).0 is

-- each kind of formed trees is made of its parts
filter_listed : (child : Tree) (p : Pred) (last : List Tree) → (takes_filter child && is_open p) ≡ true → In child last → In (t.filter child p) (filters_over last)
filter_listed child p last fits i =
    let both = and_parts (takes_filter child) (is_open p) fits in
    in_same (t.filter child p) _ (filters_over last) (ap (t.filter child) (always_is p both.1)) (kept_in (λ x. t.filter x Always) takes_filter child last both.0 i)

group_listed : (task : TaskParts) (child : Tree) (keys : List ℕ) (agg : Agg) (last : List Tree)
    → (are_keys (length (columns task.inputs child)) keys && is_allowed task.aggregates (columns task.inputs child) keys agg) ≡ true → In child last → In (t.group child keys agg) (flat_map (groups_of task) last)
group_listed task child keys agg last fits i =
    let types = columns task.inputs child in
    let both = and_parts (are_keys (length types) keys) (is_allowed task.aggregates types keys agg) fits in
    let made = map_in (t.group child keys) agg (agg_list task.aggregates types keys) (aggs_listed task.aggregates types keys agg both.1) in
    flat_map_in (groups_of task) (t.group child keys agg) child last i
    (flat_map_in (λ ks. map (t.group child ks) (agg_list task.aggregates types ks)) (t.group child keys agg) keys (key_lists (length types)) (keys_listed (length types) keys both.0) made)

pair_listed : (task : TaskParts) (kind : Pairing) (a b : Tree) (p : Pred) (ps : List (Tree × Tree)) → (may_pair task kind (a, b) && is_open p) ≡ true → In (a, b) ps → In (t.pair kind a b p) (pairs_of task kind ps)
pair_listed task kind a b p ps fits i =
    let both = and_parts (may_pair task kind (a, b)) (is_open p) fits in
    in_same (t.pair kind a b p) _ (pairs_of task kind ps) (ap (t.pair kind a b) (always_is p both.1)) (kept_in (λ q. t.pair kind q.0 q.1 Always) (may_pair task kind) (a, b) ps both.0 i)

union_listed : (task : TaskParts) (kind : Uniting) (a b : Tree) (ps : List (Tree × Tree)) → may_unite task (a, b) ≡ true → In (a, b) ps → In (t.unite kind a b) (unions_of task kind ps)
union_listed task kind a b ps fits i = kept_in (λ q. t.unite kind q.0 q.1) (may_unite task) (a, b) ps fits i

-- a pair and a union of a kind stand among those of their kind
pair_in_next : (task : TaskParts) (kind : Pairing) (tree : Tree) (last : List Tree) (ps : List (Tree × Tree)) → In tree (pairs_of task kind ps) → InNext task last ps tree
pair_in_next task Join tree last ps i = inr (inl i)
pair_in_next task Left tree last ps i = inr (inr (inl i))

union_in_next : (task : TaskParts) (kind : Uniting) (tree : Tree) (last : List Tree) (ps : List (Tree × Tree)) → In tree (unions_of task kind ps) → InNext task last ps tree
union_in_next task All tree last ps i = inr (inr (inr (inr (inl i))))
union_in_next task Firsts tree last ps i = inr (inr (inr (inr (inr i))))

-- the last level and the pairs of levels have the parts
last_in : (task : TaskParts) (child : Tree) → In child (level task (operators child)) → In child (last_level (levels task (operators child)))
last_in task child i = in_equal child _ _ (sym (level_before task (operators child))) i

pair_in : (task : TaskParts) (a b : Tree) → In a (level task (operators a)) → In b (level task (operators b)) → In (a, b) (level_pairs (levels task (operators a + operators b)))
pair_in task a b left right = level_pairs_in task (operators a + operators b) (operators a) (operators b) a b refl left right

pub three_parts : (x y z : Bool) → ((x && y) && z) ≡ true → (x ≡ true) × (y ≡ true) × (z ≡ true)
three_parts x y z is = let h = and_parts (x && y) z is in let k = and_parts x y h.0 in (k.0, k.1, h.1)

-- a formed tree stands in the level of its operators
complete : (task : TaskParts) (tree : Tree) → is_formed task tree ≡ true → In tree (level task (operators tree))
complete task (t.base table) formed =
    let below = ltb-true table (length task.inputs) formed in
    map_in t.base table (range_with_len 0 (length task.inputs)) (range_in 0 (length task.inputs) table (omega arith) (omega arith))
complete task (t.filter child p) formed =
    let h = and_parts (is_formed task child) (takes_filter child && is_open p) formed in
    level_more task (operators child) (t.filter child p) (inl (filter_listed child p _ h.1 (last_in task child (complete task child h.0))))
complete task (t.pair kind a b p) formed =
    let h = three_parts (is_formed task a) (is_formed task b) (may_pair task kind (a, b) && is_open p) formed in
    level_more task (operators a + operators b) (t.pair kind a b p)
    (pair_in_next task kind (t.pair kind a b p) _ _ (pair_listed task kind a b p _ h.2 (pair_in task a b (complete task a h.0) (complete task b h.1))))
complete task (t.group child keys agg) formed =
    let h = and_parts (is_formed task child) (are_keys (length (columns task.inputs child)) keys && is_allowed task.aggregates (columns task.inputs child) keys agg) formed in
    level_more task (operators child) (t.group child keys agg) (inr (inr (inr (inl (group_listed task child keys agg _ h.1 (last_in task child (complete task child h.0)))))))
complete task (t.unite kind a b) formed =
    let h = three_parts (is_formed task a) (is_formed task b) (may_unite task (a, b)) formed in
    level_more task (operators a + operators b) (t.unite kind a b)
    (union_in_next task kind (t.unite kind a b) _ _ (union_listed task kind a b _ h.2 (pair_in task a b (complete task a h.0) (complete task b h.1))))

-- a tree stands in a level exactly where it is formed and has so many operators
stands_in : (task : TaskParts) (n : ℕ) (tree : Tree) → Stands task n tree → In tree (level task n)
stands_in task n tree is = let P : ℕ → Type 0 = λ k. In tree (level task k) in subst P is.1 (complete task tree is.0)

in_stands : (task : TaskParts) (n : ℕ) (tree : Tree) → In tree (level task n) → Stands task n tree
in_stands task n tree i = sound task n n tree (omega arith) i

-- the two laws
pub levels_by_operators : (task : TaskParts) → LevelsByOperators task
levels_by_operators task n tree within = (
  λ is.
      let both = and_parts (is_formed task tree) (operators tree == n) is in
      in_contains (level_at (levels task task.ops) n) tree
      (in_equal tree _ _ (sym (level_within task task.ops n within)) (stands_in task n tree (both.0, eqb-true (operators tree) n both.1))),
  λ has.
      let is = in_stands task n tree (in_equal tree _ _ (level_within task task.ops n within) (contains_in (level_at (levels task task.ops) n) tree has)) in
      and_from (is_formed task tree) (operators tree == n) is.0 (eq-eqb (operators tree) n is.1),
)

-- each level is one of the levels
level_in : (ls : List (List Tree)) (k : ℕ) → k < length ls → In (level_at ls k) ls
level_in [] k below = absurd (omega arith)
level_in (l ∷ ls) zero below = inl refl
level_in (l ∷ ls) (suc k) below = inr (level_in ls k (omega arith))

-- a tree is a skeleton exactly where it stands in a level
in_skeletons : (task : TaskParts) (n : ℕ) (tree : Tree) → n ≤ task.ops → In tree (level task n) → In tree (skeletons task)
in_skeletons task n tree within i =
    let ls = levels task task.ops in
    flat_map_in (λ trees. trees) tree (level_at ls n) ls (level_in ls n (omega (arith, levels_length task task.ops))) (in_equal tree _ _ (sym (level_within task task.ops n within)) i)

skeletons_in : (task : TaskParts) (tree : Tree) → In tree (skeletons task) → (n : ℕ) × (n ≤ task.ops) × In tree (level task n)
skeletons_in task tree i =
    let ls = levels task task.ops in
    let h = in_flat_map (λ trees. trees) tree ls i in
    let at = at_in h.0 ls h.1 in
    let below = slice_get_within ls at.0 h.0 at.1 in
    let within : at.0 ≤ task.ops = omega (arith, levels_length task task.ops) in
    let here : h.0 ≡ level_at ls at.0 = sym (ap (λ o. unwrap_or o []) at.1) in
    (at.0, within, in_equal tree _ _ (here ∙ level_within task task.ops at.0 within) h.2)

pub lists_skeletons : (task : TaskParts) → ListsSkeletons task
lists_skeletons task tree = (
  λ is.
      let both = and_parts (is_formed task tree) (nat_le (operators tree) task.ops) is in
      in_contains (skeletons task) tree (in_skeletons task (operators tree) tree (leb-true (operators tree) task.ops both.1) (complete task tree both.0)),
  λ has.
      let h = skeletons_in task tree (contains_in (skeletons task) tree has) in
      let is = in_stands task h.0 tree h.2 in
      and_from (is_formed task tree) (nat_le (operators tree) task.ops) is.0 (le-leb (operators tree) task.ops (omega (arith, h.1, is.1))),
)
