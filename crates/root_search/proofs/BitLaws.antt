-- The answers of a body by bits: what some bits keep of candidate rows gives an output exactly where the counts of the bits do.
use Rattle.std.proofs.Common.{◌≡◌, refl, sym, ap, ◌∙◌, ℕ, ◌+◌, ◌≤◌, Bool, true, false, cond, ◌&&◌, ◌==◌, List, [], ◌∷◌, length, map, arith}
use Rattle.std.specs.Prelude.{count_by, nat_lt, nat_le}
use Rattle.std.specs.List.{list_all, sum_by}
use Rattle.std.proofs.lemmas.Bool.{and_parts, eqb-true, leb-true, le-leb, false_from_ne_true, both_ways}
use Rattle.std.proofs.lemmas.List.{length-map}
use Rattle.std.proofs.lemmas.List.Folds.{list_all-map}
use Rattle.std.proofs.lemmas.List.Sums.{sum_by-cons}
use Rattle.bit_rows.specs.Bits.{and_bits}
use Rattle.bit_rows.specs.Masked.{masked}
use Rattle.table_core.specs.Rows.{Row}
use Rattle.table_core.specs.Bag.{same_cells, count, same_rows, has_double}
use Rattle.query_core.specs.Firsts.{projected, firsts}
use Rattle.query_core.specs.Meaning.{selected}
use Rattle.map_walk.specs.declared.target.Target.{Target}
use Rattle.map_walk.specs.Targets.{ones, are_enough}
use Rattle.map_walk.proofs.WalkLaws.{ones_next}
use Rattle.root_search.specs.Targets.{shared, mask_of, target_of, targets, all_give, each_found, firsts_give, bits_give}
use Rattle.root_search.specs.Laws.{GivenByBits, NoneByFew}
use Rattle.root_search.proofs.CountLaws.{all_counts, first_counts, all_by_counts, firsts_by_counts}

-- as many of what is kept pass a test as bits are set in both what keeps and the test's mask
count_masked : {X : Type 0} (f : X → Row) (p : Row → Bool) (bits : List Bool) (xs : List X) → count_by p (map f (masked bits xs)) ≡ shared bits (map (λ x. p (f x)) xs)
count_masked f p [] xs = refl
count_masked f p (b ∷ bits) [] = refl
count_masked f p (true ∷ bits) (x ∷ xs) =
    sum_by-cons (λ r. cond (p r) 1 0) (f x) (map f (masked bits xs))
    ∙ ap (λ n. cond (p (f x)) 1 0 + n) (count_masked f p bits xs)
    ∙ sym (ones_next (p (f x)) (and_bits bits (map (λ y. p (f y)) xs)))
count_masked f p (false ∷ bits) (x ∷ xs) = omega (arith, count_masked f p bits xs, ones_next false (and_bits bits (map (λ y. p (f y)) xs)))

length_masked : {X : Type 0} (bits : List Bool) (xs : List X) → length bits ≡ length xs → length (masked bits xs) ≡ ones bits
length_masked [] [] same = refl
length_masked [] (x ∷ xs) same = absurd (omega (arith, same))
length_masked (b ∷ bits) [] same = absurd (omega (arith, same))
length_masked (true ∷ bits) (x ∷ xs) same = omega (arith, length_masked bits xs (omega (arith, same)), ones_next true bits)
length_masked (false ∷ bits) (x ∷ xs) same = omega (arith, length_masked bits xs (omega (arith, same)), ones_next false bits)

-- the tests on targets are those on the first copies of the output's rows
pub sum_targets : {X Y : Type 0} (f : Y → ℕ) (g : X → Y) (xs : List X) → sum_by f (map g xs) ≡ sum_by (λ x. f (g x)) xs
sum_targets f g [] = refl
sum_targets f g (x ∷ xs) = sum_by-cons f (g x) (map g xs) ∙ ap (λ n. f (g x) + n) (sum_targets f g xs) ∙ sym (sum_by-cons (λ y. f (g y)) x xs)

module _ (picks : List ℕ) (bits : List Bool) (candidates output : List Row) (long : length bits ≡ length candidates) where
  -- how many of the rows are the same as a row, and how many there are
  pub found_is : count (selected picks (masked bits candidates)) ≡ (λ y. shared bits (mask_of picks candidates y))
  found_is = λ i y. count_masked (projected picks) (λ r. same_cells r y) bits candidates i

  pub total_is : length (selected picks (masked bits candidates)) ≡ ones bits
  total_is = length-map (masked bits candidates) (projected picks) ∙ length_masked bits candidates long

  all_is : same_rows (selected picks (masked bits candidates)) output ≡ all_give (length output) bits (targets picks candidates output)
  all_is =
      all_by_counts (selected picks (masked bits candidates)) output
      ∙ ap (λ n. all_counts (length output) n (count (selected picks (masked bits candidates))) output) total_is
      ∙ ap (λ f. all_counts (length output) (ones bits) f output) found_is
      ∙ ap (λ b. (ones bits == length output) && b) (sym (list_all-map (λ t. shared bits t.mask == t.copies) (target_of picks candidates output) (firsts output)))

  firsts_is : (has_double (selected picks (masked bits candidates)) && same_rows (firsts (selected picks (masked bits candidates))) output) ≡ firsts_give (length output) bits (targets picks candidates output)
  firsts_is =
      firsts_by_counts (selected picks (masked bits candidates)) output
      ∙ ap (λ n. first_counts (length output) n (count (selected picks (masked bits candidates))) output) total_is
      ∙ ap (λ f. first_counts (length output) (ones bits) f output) found_is
      ∙ ap (λ b. nat_lt (length output) (ones bits) && ((ones bits == sum_by (λ y. shared bits (mask_of picks candidates y)) (firsts output)) && b)) (sym (list_all-map (λ t. nat_le 1 (shared bits t.mask) && (t.copies == 1)) (target_of picks candidates output) (firsts output)))
      ∙ ap (λ n. nat_lt (length output) (ones bits) && ((ones bits == n) && list_all (λ t. nat_le 1 (shared bits t.mask) && (t.copies == 1)) (targets picks candidates output))) (sym (sum_targets (λ t. shared bits t.mask) (target_of picks candidates output) (firsts output)))

pub given_by_bits : (picks : List ℕ) (distinct : Bool) (bits : List Bool) (candidates output : List Row) → GivenByBits picks distinct bits candidates output
given_by_bits picks true bits candidates output long = firsts_is picks bits candidates output long
given_by_bits picks false bits candidates output long = all_is picks bits candidates output long

-- at most as many bits are set in both of two rows as in one
pub shared_most : (bits mask : List Bool) → shared bits mask ≤ ones mask
shared_most [] mask = omega arith
shared_most (b ∷ bits) [] = omega arith
shared_most (true ∷ bits) (m ∷ mask) = omega (arith, shared_most bits mask, ones_next m (and_bits bits mask), ones_next m mask)
shared_most (false ∷ bits) (m ∷ mask) = omega (arith, shared_most bits mask, ones_next false (and_bits bits mask), ones_next m mask)

-- a test of all that follows from another
pub all_follow : {X : Type 0} (p q : X → Bool) (xs : List X) → ((x : X) → p x ≡ true → q x ≡ true) → list_all p xs ≡ true → list_all q xs ≡ true
all_follow p q [] each all = refl
all_follow p q (x ∷ xs) each all = let h = and_parts (p x) (list_all p xs) all in rw (each x h.0) (all_follow p q xs each h.1)

given_enough : (distinct : Bool) (wanted : ℕ) (bits : List Bool) (targets : List Target) → bits_give distinct wanted bits targets ≡ true → are_enough targets ≡ true
given_enough true wanted bits targets given =
    all_follow (λ t. nat_le 1 (shared bits t.mask) && (t.copies == 1)) (λ t. nat_le t.copies (ones t.mask)) targets
    (λ t h. let parts = and_parts (nat_le 1 (shared bits t.mask)) (t.copies == 1) h in le-leb _ _ (omega (arith, leb-true _ _ parts.0, eqb-true _ _ parts.1, shared_most bits t.mask)))
    (and_parts (ones bits == sum_by (λ t. shared bits t.mask) targets) (list_all (λ t. nat_le 1 (shared bits t.mask) && (t.copies == 1)) targets)
    (and_parts (nat_lt wanted (ones bits)) (each_found (ones bits) bits targets) given).1).1
given_enough false wanted bits targets given =
    all_follow (λ t. shared bits t.mask == t.copies) (λ t. nat_le t.copies (ones t.mask)) targets
    (λ t h. le-leb _ _ (omega (arith, eqb-true _ _ h, shared_most bits t.mask)))
    (and_parts (ones bits == wanted) (list_all (λ t. shared bits t.mask == t.copies) targets) given).1

pub none_by_few : (distinct : Bool) (wanted : ℕ) (bits : List Bool) (targets : List Target) → NoneByFew distinct wanted bits targets
none_by_few distinct wanted bits targets few = false_from_ne_true (bits_give distinct wanted bits targets) (λ given. both_ways (are_enough targets) few (given_enough distinct wanted bits targets given))
