-- The levels of numbered skeletons have the trees, the types and the order of the grammar's levels.
use Rattle.std.proofs.Common.{◌≡◌, ℕ, zero, suc, ◌+◌, ◌-◌, List, [], ◌∷◌, ◌++◌, map, length, refl, sym, ap, ap₂, ◌∙◌, arith, append_assoc, length-append}
use Rattle.std.specs.List.{range_with_len}
use Rattle.std.proofs.lemmas.List.{length-map, map-append, append-nil}
use Rattle.table_core.specs.declared.task.TaskParts.{TaskParts}
use Rattle.query_core.specs.Tree.{Tree}
use Rattle.query_core.specs.Meaning.{columns}
use Rattle.query_core.specs.Grammar.{leaves, takes_filter, next_level, bases, levels}
use Rattle.skeleton_graph.specs.declared.part.Part.{Part}
use Rattle.skeleton_graph.specs.declared.levels.Levels.{Levels}
use Rattle.skeleton_graph.specs.Nodes.{tree_at, made_tree}
use Rattle.skeleton_graph.specs.Seen.{Seen, kind_takes_filter, all_of, base_parts, next_parts}
use Rattle.skeleton_graph.specs.View.{sees, see_levels, placed, parts_of}
use Rattle.skeleton_graph.specs.Listing.{with_level, no_levels, placed_levels}
use Rattle.skeleton_graph.proofs.PlacedLaws.{all_with}
use Rattle.skeleton_graph.proofs.LevelLaws.{Told, told, part_told, seen_of, seen_levels, tree_levels, next_is, bases_are}

-- the tree of a skeleton over the trees of those before it, and the trees of some
abbrev pub part_tree : List Tree → Part → Tree
part_tree trees part = made_tree trees part.kind part.left part.right

abbrev pub part_trees_after : List Tree → List Part → List Tree
part_trees_after trees [] = trees
part_trees_after trees (part ∷ parts) = part_trees_after (trees ++ part_tree trees part ∷ []) parts

-- the numbers of the trees of some levels, from a number on
abbrev pub numbers_from : ℕ → List (List Tree) → List (List ℕ)
numbers_from n [] = []
numbers_from n (level ∷ gl) = range_with_len n (length level) ∷ numbers_from (n + length level) gl

-- the element after some
pub get_after : (pre post : List Tree) (x : Tree) (n : ℕ) → n ≡ length pre → tree_at (pre ++ x ∷ post) n ≡ x
get_after [] post x n is = rw is refl
get_after (y ∷ pre) post x n is =
    let e : n ≡ suc (n - 1) = omega (arith, is) in
    let less : n - 1 ≡ length pre = omega (arith, is) in
    rw e (get_after pre post x (n - 1) less)

-- the trees of the numbers of a level
range_trees : (pre xs post all : List Tree) (n : ℕ) → n ≡ length pre → all ≡ pre ++ (xs ++ post) → map (tree_at all) (range_with_len n (length xs)) ≡ xs
range_trees pre [] post all n is whole = refl
range_trees pre (x ∷ xs) post all n is whole =
    let here : tree_at all n ≡ x = ap (λ l. tree_at l n) whole ∙ get_after pre (xs ++ post) x n is in
    let longer : n + 1 ≡ length (pre ++ x ∷ []) = ap (λ m. m + 1) is ∙ sym (length-append pre (x ∷ [])) in
    let again : all ≡ (pre ++ x ∷ []) ++ (xs ++ post) = whole ∙ sym (append_assoc pre (x ∷ []) (xs ++ post)) in
    ap₂ (λ a b. a ∷ b) here (range_trees (pre ++ x ∷ []) xs post all (n + 1) longer again)

-- the trees of the numbers of some levels are these levels
levels_back : (pre post all : List Tree) (gl : List (List Tree)) (n : ℕ) → n ≡ length pre → all ≡ pre ++ (all_of gl ++ post) → tree_levels all (numbers_from n gl) ≡ gl
levels_back pre post all [] n is whole = refl
levels_back pre post all (level ∷ gl) n is whole =
    let first : all ≡ pre ++ (level ++ (all_of gl ++ post)) = whole ∙ ap (λ l. pre ++ l) (append_assoc level (all_of gl) post) in
    let longer : n + length level ≡ length (pre ++ level) = ap (λ m. m + length level) is ∙ sym (length-append pre level) in
    let again : all ≡ (pre ++ level) ++ (all_of gl ++ post) = first ∙ sym (append_assoc pre level (all_of gl ++ post)) in
    ap₂ (λ a b. a ∷ b) (range_trees pre level (all_of gl ++ post) all n is first) (levels_back (pre ++ level) post all gl (n + length level) longer again)

numbers_from-append : (n m : ℕ) (gl : List (List Tree)) (level : List Tree) → m ≡ n + length (all_of gl) → numbers_from n (gl ++ level ∷ []) ≡ numbers_from n gl ++ range_with_len m (length level) ∷ []
numbers_from-append n m [] level is = let e : m ≡ n = omega (arith, is) in rw e refl
numbers_from-append n m (l ∷ gl) level is =
    let size : length (l ++ all_of gl) ≡ length l + length (all_of gl) = length-append l (all_of gl) in
    let next : m ≡ (n + length l) + length (all_of gl) = omega (arith, is, size) in
    ap (λ rest. range_with_len n (length l) ∷ rest) (numbers_from-append (n + length l) m gl level next)

-- the parts of equal mapped lists
head_told : {a b : Told} {xs ys : List Told} → a ∷ xs ≡ b ∷ ys → a ≡ b
head_told {a} {b} {xs} {ys} e = cc

tail_told : {a b : Told} {xs ys : List Told} → a ∷ xs ≡ b ∷ ys → xs ≡ ys
tail_told {a} {b} {xs} {ys} e = cc

-- what is asked of a new level is what is asked of its trees
level_seen : (task : TaskParts) (over pre post all : List Tree) (parts : List Part) (next : List Tree) (n : ℕ) → n ≡ length pre → all ≡ pre ++ (next ++ post)
    → map (part_told over) parts ≡ map (told task) next → sees (placed n parts) ≡ map (seen_of task all) (range_with_len n (length next))
level_seen task over pre post all [] [] n is whole same = refl
level_seen task over pre post all [] (x ∷ next) n is whole same = cc
level_seen task over pre post all (p ∷ parts) [] n is whole same = cc
level_seen task over pre post all (p ∷ parts) (x ∷ next) n is whole same =
    let head : part_told over p ≡ told task x = head_told same in
    let tree : tree_at all n ≡ x = ap (λ l. tree_at l n) whole ∙ get_after pre (next ++ post) x n is in
    let takes : kind_takes_filter p.kind ≡ takes_filter x = ap (λ r. r.takes_filter) head in
    let under : p.leaves ≡ leaves x = ap (λ r. r.leaves) head in
    let types : p.types ≡ columns task.inputs x = ap (λ r. r.types) head in
    let seen : Seen = record { number = n; takes_filter = takes_filter x; leaves = leaves x; types = columns task.inputs x } in
    let left : ◌≡◌ {A = Seen} (record { number = n; takes_filter = kind_takes_filter p.kind; leaves = p.leaves; types = p.types }) seen = rw (takes, under, types) refl in
    let right : seen_of task all n ≡ seen = rw tree refl in
    let longer : n + 1 ≡ length (pre ++ x ∷ []) = ap (λ m. m + 1) is ∙ sym (length-append pre (x ∷ [])) in
    let again : all ≡ (pre ++ x ∷ []) ++ (next ++ post) = whole ∙ sym (append_assoc pre (x ∷ []) (next ++ post)) in
    ap₂ (λ a b. a ∷ b) (left ∙ sym right) (level_seen task over (pre ++ x ∷ []) post all parts next (n + 1) longer again (tail_told same))

-- the trees of a new level, each over those before it
level_trees : (task : TaskParts) (pre : List Tree) (parts : List Part) (next : List Tree) → ((post : List Tree) → map (part_told (pre ++ post)) parts ≡ map (told task) next)
    → part_trees_after pre parts ≡ pre ++ next
level_trees task pre [] [] same = sym (append-nil pre)
level_trees task pre [] (x ∷ next) same = let e = same [] in cc
level_trees task pre (p ∷ parts) [] same = let e = same [] in cc
level_trees task pre (p ∷ parts) (x ∷ next) same =
    let told_here : part_told (pre ++ []) p ≡ told task x = head_told (same []) in
    let here : part_tree pre p ≡ x = ap (λ l. part_tree l p) (sym (append-nil pre)) ∙ ap (λ r. r.tree) told_here in
    let later : (post : List Tree) → map (part_told ((pre ++ x ∷ []) ++ post)) parts ≡ map (told task) next =
    λ post. ap (λ l. map (part_told l) parts) (append_assoc pre (x ∷ []) post) ∙ tail_told (same (x ∷ post)) in
    ap (λ y. part_trees_after (pre ++ y ∷ []) parts) here ∙ level_trees task (pre ++ x ∷ []) parts next later ∙ append_assoc pre (x ∷ []) next

part_trees_after-append : (trees : List Tree) (a b : List Part) → part_trees_after trees (a ++ b) ≡ part_trees_after (part_trees_after trees a) b
part_trees_after-append trees [] b = refl
part_trees_after-append trees (p ∷ a) b = part_trees_after-append (trees ++ part_tree trees p ∷ []) a b

level_types : (task : TaskParts) (over : List Tree) (parts : List Part) (next : List Tree) → map (part_told over) parts ≡ map (told task) next → map (λ p. p.types) parts ≡ map (columns task.inputs) next
level_types task over [] [] same = refl
level_types task over [] (x ∷ next) same = cc
level_types task over (p ∷ parts) [] same = cc
level_types task over (p ∷ parts) (x ∷ next) same = ap₂ (λ a b. a ∷ b) (ap (λ r. r.types) (head_told same)) (level_types task over parts next (tail_told same))

parts_placed : (n : ℕ) (parts : List Part) → parts_of (placed n parts) ≡ parts
parts_placed n [] = refl
parts_placed n (p ∷ parts) = ap (λ l. p ∷ l) (parts_placed (n + 1) parts)

-- what the levels of numbered skeletons have of levels of the grammar
pub record Same (task : TaskParts) (l : Levels) (gl : List (List Tree)) : Type 0 where
  pub seen : (post : List Tree) → see_levels l.levels ≡ seen_levels task (all_of gl ++ post) (numbers_from 0 gl)
  pub count : l.count ≡ length (all_of gl)
  pub trees : part_trees_after [] (parts_of (all_of l.levels)) ≡ all_of gl
  pub types : map (λ p. p.types) (parts_of (all_of l.levels)) ≡ map (columns task.inputs) (all_of gl)

-- all parts of some levels and one more
pub parts_with : (l : Levels) (parts : List Part) → parts_of (all_of (with_level l parts).levels) ≡ parts_of (all_of l.levels) ++ parts
parts_with l parts =
    ap parts_of (all_with l.levels (placed l.count parts)) ∙ map-append (λ p. p.part) (all_of l.levels) (placed l.count parts) ∙ ap (λ b. parts_of (all_of l.levels) ++ b) (parts_placed l.count parts)

same_with : (task : TaskParts) (l : Levels) (gl : List (List Tree)) (parts : List Part) (next : List Tree) → Same task l gl
    → ((post : List Tree) → map (part_told (all_of gl ++ post)) parts ≡ map (told task) next) → Same task (with_level l parts) (gl ++ next ∷ [])
same_with task l gl parts next s same =
    let all : all_of (gl ++ next ∷ []) ≡ all_of gl ++ next = all_with gl next in
    let size : length parts ≡ length next = sym (length-map parts (part_told (all_of gl ++ []))) ∙ ap length (same []) ∙ length-map next (told task) in
    let ps = parts_with l parts in
    record {
      seen = λ post.
          let whole : all_of (gl ++ next ∷ []) ++ post ≡ all_of gl ++ (next ++ post) = ap (λ x. x ++ post) all ∙ append_assoc (all_of gl) next post in
          let numbers : numbers_from 0 (gl ++ next ∷ []) ≡ numbers_from 0 gl ++ range_with_len l.count (length next) ∷ [] = numbers_from-append 0 l.count gl next (omega (arith, s.count)) in
          let before : see_levels l.levels ≡ seen_levels task (all_of (gl ++ next ∷ []) ++ post) (numbers_from 0 gl) = s.seen (next ++ post) ∙ ap (λ x. seen_levels task x (numbers_from 0 gl)) (sym whole) in
          let last : sees (placed l.count parts) ≡ map (seen_of task (all_of (gl ++ next ∷ []) ++ post)) (range_with_len l.count (length next)) =
          level_seen task (all_of gl ++ []) (all_of gl) post (all_of (gl ++ next ∷ []) ++ post) parts next l.count s.count whole (same []) in
          map-append sees l.levels (placed l.count parts ∷ [])
          ∙ ap₂ (λ a b. a ++ b ∷ []) before last
          ∙ sym (map-append (map (seen_of task (all_of (gl ++ next ∷ []) ++ post))) (numbers_from 0 gl) (range_with_len l.count (length next) ∷ []))
          ∙ ap (seen_levels task (all_of (gl ++ next ∷ []) ++ post)) (sym numbers);
      count = let sizes : length (all_of (gl ++ next ∷ [])) ≡ length (all_of gl) + length next = ap length all ∙ length-append (all_of gl) next in omega (arith, sizes, size, s.count);
      trees = ap (part_trees_after []) ps ∙ part_trees_after-append [] (parts_of (all_of l.levels)) parts ∙ ap (λ x. part_trees_after x parts) s.trees ∙ level_trees task (all_of gl) parts next same ∙ sym all;
      types = ap (map (λ p. p.types)) ps ∙ map-append (λ p. p.types) (parts_of (all_of l.levels)) parts ∙ ap₂ (λ a b. a ++ b) s.types (level_types task (all_of gl ++ []) parts next (same []))
          ∙ sym (map-append (columns task.inputs) (all_of gl) next) ∙ ap (map (columns task.inputs)) (sym all);
    }

same_none : (task : TaskParts) → Same task no_levels []
same_none task = record { seen = λ post. refl; count = refl; trees = refl; types = refl }

next_same : (task : TaskParts) (l : Levels) (gl : List (List Tree)) → Same task l gl → (post : List Tree) → map (part_told (all_of gl ++ post)) (next_parts task (see_levels l.levels)) ≡ map (told task) (next_level task gl)
next_same task l gl s post =
    let trees = all_of gl ++ post in
    ap (λ x. map (part_told trees) (next_parts task x)) (s.seen post)
    ∙ next_is task trees (numbers_from 0 gl)
    ∙ ap (λ x. map (told task) (next_level task x)) (levels_back [] post trees gl 0 refl refl)

-- the levels of a task
pub same_levels : (task : TaskParts) (ops : ℕ) → Same task (placed_levels task ops) (levels task ops)
same_levels task zero = same_with task no_levels [] (base_parts task) (bases task) (same_none task) (λ post. bases_are task post)
same_levels task (suc ops) =
    let below = placed_levels task ops in
    let s = same_levels task ops in
    same_with task below (levels task ops) (next_parts task (see_levels below.levels)) (next_level task (levels task ops)) s (next_same task below (levels task ops) s)
