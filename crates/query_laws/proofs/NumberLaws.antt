-- A filling of a skeleton is told by the numbers of its predicates.
use Rattle.std.proofs.Common.{◌≡◌, refl, sym, ap, ◌∙◌, subst, ℕ, ◌+◌, Bool, true, Decides, inl, inr, List, [], ◌∷◌, ◌++◌, length, Some, arith, length-append}
use Rattle.std.specs.Prelude.{slice_get}
use Rattle.std.specs.List.{position_or_len}
use Rattle.std.proofs.lemmas.Bool.{cases_Bool}
use Rattle.std.proofs.lemmas.Option.{same_Some}
use Rattle.std.proofs.Math.Numerals.{one-add}
use Rattle.value_core.specs.declared.value.ColType.{ColType}
use Rattle.predicate_core.specs.declared.pred.Pred.{Pred}
use Rattle.predicate_core.specs.Equal.{same_pred}
use Rattle.predicate_core.proofs.SameLaws.{same_pred_decides}
use Rattle.predicate_core.proofs.OnceLists.{In}
use Rattle.table_core.specs.declared.task.TaskParts.{TaskParts}
use Rattle.query_core.specs.Tree.{Tree}
use Rattle.query_core.specs.Tree as t
use Rattle.query_core.specs.Meaning.{columns, hole_types}
use Rattle.query_core.specs.Grammar.{predicates, fillings}
use Rattle.query_core.specs.Rank.{pred_number, pred_numbers}
use Rattle.query_laws.proofs.MemberLaws.{in_one}
use Rattle.query_laws.proofs.FillingLaws.{in_filter_fillings, in_pair_fillings, in_group_fillings, in_union_fillings}

-- the elements at the first places that two tests find are told by these places
position_at : {X : Type 0} (same : X → X → Bool) → ((a b : X) → Decides (same a b) (a ≡ b)) → (x : X) (xs : List X) → In x xs → slice_get xs (position_or_len (same x) xs) ≡ Some x
position_at same decides x [] i = absurd i
position_at same decides x (y ∷ ys) (inl e) = let is : same x y ≡ true = (decides x y).1 e in rw is (ap Some (sym e))
position_at same decides x (y ∷ ys) (inr i) =
    elim (cases_Bool (same x y)) [
      | inl is ↦ rw is (ap Some (sym ((decides x y).0 is)))
      | inr apart ↦ rw (apart, one-add) (position_at same decides x ys i)
    ]

position_tells : {X : Type 0} (same : X → X → Bool) → ((a b : X) → Decides (same a b) (a ≡ b)) → (x y : X) (xs : List X) → In x xs → In y xs
    → position_or_len (same x) xs ≡ position_or_len (same y) xs → x ≡ y
position_tells same decides x y xs i j e =
    same_Some x y (sym (position_at same decides x xs i) ∙ ap (slice_get xs) e ∙ position_at same decides y xs j)

-- a predicate of a hole is told by its number
number_tells : (task : TaskParts) (types : List ColType) (p q : Pred) → In p (predicates task types) → In q (predicates task types) → pred_number task types p ≡ pred_number task types q → p ≡ q
number_tells task types p q i j e = position_tells same_pred same_pred_decides p q (predicates task types) i j e

-- two lists that are joined of parts of equal lengths have equal parts
pub parts_same : {X : Type 0} (xs bs cs ds : List X) → length xs ≡ length bs → xs ++ cs ≡ bs ++ ds → (xs ≡ bs) × (cs ≡ ds)
parts_same [] [] cs ds n e = (refl, e)
parts_same [] (b ∷ bs) cs ds n e = cc
parts_same (a ∷ xs) [] cs ds n e = cc
parts_same (a ∷ xs) (b ∷ bs) cs ds n e =
    let heads : a ≡ b = cc in
    let tails : xs ++ cs ≡ bs ++ ds = cc in
    let sizes : length xs ≡ length bs = omega (arith, n) in
    let h = parts_same xs bs cs ds sizes tails in
    let front : xs ≡ bs = h.0 in
    (cc, h.1)

-- the same with one element behind each
last_same : {X : Type 0} (xs bs : List X) (c d : X) → length xs ≡ length bs → xs ++ c ∷ [] ≡ bs ++ d ∷ [] → (xs ≡ bs) × (c ≡ d)
last_same xs bs c d n e = let h = parts_same xs bs (c ∷ []) (d ∷ []) n e in let ends : c ∷ [] ≡ d ∷ [] = h.1 in (h.0, cc)

-- how many holes a skeleton has
abbrev holes : Tree → ℕ
holes (t.base table) = 0
holes (t.filter child p) = holes child + 1
holes (t.pair kind a b p) = (holes a + holes b) + 1
holes (t.group child keys agg) = holes child
holes (t.unite kind a b) = holes a + holes b

one_more : (xs : List ℕ) (n size : ℕ) → length xs ≡ size → length (xs ++ n ∷ []) ≡ size + 1
one_more xs n size is = let long = length-append xs (n ∷ []) in omega (arith, is, long)

two_and_one : (xs ys : List ℕ) (n left right : ℕ) → length xs ≡ left → length ys ≡ right → length ((xs ++ ys) ++ n ∷ []) ≡ (left + right) + 1
two_and_one xs ys n left right is js = let long = length-append xs ys in one_more (xs ++ ys) n (left + right) (omega (arith, is, js, long))

two_sizes : (xs ys : List ℕ) (left right : ℕ) → length xs ≡ left → length ys ≡ right → length (xs ++ ys) ≡ left + right
two_sizes xs ys left right is js = let long = length-append xs ys in omega (arith, is, js, long)

-- a filling has a number for each hole
numbers_of_holes : (task : TaskParts) (s x : Tree) → In x (fillings task s) → length (pred_numbers task x) ≡ holes s
numbers_of_holes task (t.base table) x i = rw (in_one x (t.base table) i) refl
numbers_of_holes task (t.filter child p) x i =
    let h = in_filter_fillings task child p x i in
    rw h.4 (one_more (pred_numbers task h.0) (pred_number task (columns task.inputs h.0) h.1) (holes child) (numbers_of_holes task child h.0 h.2))
numbers_of_holes task (t.pair kind a b p) x i =
    let h = in_pair_fillings task kind a b p x i in
    rw h.6 (two_and_one (pred_numbers task h.0) (pred_numbers task h.1) (pred_number task (hole_types task.inputs h.0 h.1) h.2) (holes a) (holes b) (numbers_of_holes task a h.0 h.3) (numbers_of_holes task b h.1 h.4))
numbers_of_holes task (t.group child keys agg) x i =
    let h = in_group_fillings task child keys agg x i in
    rw h.2 (numbers_of_holes task child h.0 h.1)
numbers_of_holes task (t.unite kind a b) x i =
    let h = in_union_fillings task kind a b x i in
    rw h.4 (two_sizes (pred_numbers task h.0) (pred_numbers task h.1) (holes a) (holes b) (numbers_of_holes task a h.0 h.2) (numbers_of_holes task b h.1 h.3))

-- two fillings of a skeleton have as many numbers
as_many : (task : TaskParts) (s x y : Tree) → In x (fillings task s) → In y (fillings task s) → length (pred_numbers task x) ≡ length (pred_numbers task y)
as_many task s x y i j = numbers_of_holes task s x i ∙ sym (numbers_of_holes task s y j)

-- two nodes of equal parts, whose predicates have one number, are one
filter_same : (task : TaskParts) (c d : Tree) (p q : Pred) → c ≡ d → In p (predicates task (columns task.inputs c)) → In q (predicates task (columns task.inputs d))
    → pred_number task (columns task.inputs c) p ≡ pred_number task (columns task.inputs d) q → t.filter c p ≡ t.filter d q
filter_same task c d p q same i j e =
    let k : In q (predicates task (columns task.inputs c)) = subst (λ (z : Tree). In q (predicates task (columns task.inputs z))) (sym same) j in
    let n : pred_number task (columns task.inputs c) p ≡ pred_number task (columns task.inputs c) q = e ∙ ap (λ z. pred_number task (columns task.inputs z) q) (sym same) in
    let preds : p ≡ q = number_tells task (columns task.inputs c) p q i k n in
    cc

-- the predicates of two joins of equal parts are one where they have one number
pair_pred_same : (task : TaskParts) (a b c d : Tree) (p q : Pred) → a ≡ c → b ≡ d → In p (predicates task (hole_types task.inputs a b)) → In q (predicates task (hole_types task.inputs c d))
    → pred_number task (hole_types task.inputs a b) p ≡ pred_number task (hole_types task.inputs c d) q → p ≡ q
pair_pred_same task a b c d p q left right i j e =
    let types : hole_types task.inputs c d ≡ hole_types task.inputs a b = cc in
    let k : In q (predicates task (hole_types task.inputs a b)) = rw types at j in
    let n : pred_number task (hole_types task.inputs a b) p ≡ pred_number task (hole_types task.inputs a b) q = rw types at e in
    number_tells task (hole_types task.inputs a b) p q i k n

-- the numbers of two parts and of the node over them
three_same : (xs bs cs ds : List ℕ) (m n : ℕ) → length xs ≡ length cs → length bs ≡ length ds → (xs ++ bs) ++ m ∷ [] ≡ (cs ++ ds) ++ n ∷ [] → (xs ≡ cs) × (bs ≡ ds) × (m ≡ n)
three_same xs bs cs ds m n left right e =
    let here = length-append xs bs in
    let there = length-append cs ds in
    let sizes : length (xs ++ bs) ≡ length (cs ++ ds) = omega (arith, left, right, here, there) in
    let h = last_same (xs ++ bs) (cs ++ ds) m n sizes e in
    let k = parts_same xs cs bs ds left h.0 in
    (k.0, k.1, h.1)

-- two fillings of a skeleton with the same numbers of predicates are one
pub numbers_tell : (task : TaskParts) (s x y : Tree) → In x (fillings task s) → In y (fillings task s) → pred_numbers task x ≡ pred_numbers task y → x ≡ y
numbers_tell task (t.base table) x y i j e = in_one x (t.base table) i ∙ sym (in_one y (t.base table) j)
numbers_tell task (t.filter child p) x y i j e =
    let h = in_filter_fillings task child p x i in
    let k = in_filter_fillings task child p y j in
    let numbers : pred_numbers task (t.filter h.0 h.1) ≡ pred_numbers task (t.filter k.0 k.1) = sym (ap (pred_numbers task) h.4) ∙ e ∙ ap (pred_numbers task) k.4 in
    let parts = last_same (pred_numbers task h.0) (pred_numbers task k.0) _ _ (as_many task child h.0 k.0 h.2 k.2) numbers in
    let node = filter_same task h.0 k.0 h.1 k.1 (numbers_tell task child h.0 k.0 h.2 k.2 parts.0) (inr h.3) (inr k.3) parts.1 in
    h.4 ∙ node ∙ sym k.4
numbers_tell task (t.pair kind a b p) x y i j e =
    let h = in_pair_fillings task kind a b p x i in
    let k = in_pair_fillings task kind a b p y j in
    let numbers : pred_numbers task (t.pair kind h.0 h.1 h.2) ≡ pred_numbers task (t.pair kind k.0 k.1 k.2) = sym (ap (pred_numbers task) h.6) ∙ e ∙ ap (pred_numbers task) k.6 in
    let parts = three_same (pred_numbers task h.0) (pred_numbers task h.1) (pred_numbers task k.0) (pred_numbers task k.1) _ _ (as_many task a h.0 k.0 h.3 k.3) (as_many task b h.1 k.1 h.4 k.4) numbers in
    let left : h.0 ≡ k.0 = numbers_tell task a h.0 k.0 h.3 k.3 parts.0 in
    let right : h.1 ≡ k.1 = numbers_tell task b h.1 k.1 h.4 k.4 parts.1 in
    let preds : h.2 ≡ k.2 = pair_pred_same task h.0 h.1 k.0 k.1 h.2 k.2 left right h.5 k.5 parts.2 in
    let node : t.pair kind h.0 h.1 h.2 ≡ t.pair kind k.0 k.1 k.2 = cc in
    h.6 ∙ node ∙ sym k.6
numbers_tell task (t.group child keys agg) x y i j e =
    let h = in_group_fillings task child keys agg x i in
    let k = in_group_fillings task child keys agg y j in
    let numbers : pred_numbers task h.0 ≡ pred_numbers task k.0 = sym (ap (pred_numbers task) h.2) ∙ e ∙ ap (pred_numbers task) k.2 in
    let part : h.0 ≡ k.0 = numbers_tell task child h.0 k.0 h.1 k.1 numbers in
    h.2 ∙ ap (λ c. t.group c keys agg) part ∙ sym k.2
numbers_tell task (t.unite kind a b) x y i j e =
    let h = in_union_fillings task kind a b x i in
    let k = in_union_fillings task kind a b y j in
    let numbers : pred_numbers task h.0 ++ pred_numbers task h.1 ≡ pred_numbers task k.0 ++ pred_numbers task k.1 = sym (ap (pred_numbers task) h.4) ∙ e ∙ ap (pred_numbers task) k.4 in
    let parts = parts_same (pred_numbers task h.0) (pred_numbers task k.0) (pred_numbers task h.1) (pred_numbers task k.1) (as_many task a h.0 k.0 h.2 k.2) numbers in
    let left : h.0 ≡ k.0 = numbers_tell task a h.0 k.0 h.2 k.2 parts.0 in
    let right : h.1 ≡ k.1 = numbers_tell task b h.1 k.1 h.3 k.3 parts.1 in
    let node : t.unite kind h.0 h.1 ≡ t.unite kind k.0 k.1 = cc in
    h.4 ∙ node ∙ sym k.4
