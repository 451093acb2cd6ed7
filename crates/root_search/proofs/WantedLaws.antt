-- What choices of candidate rows may be wanted: a choice that gives the output is, and so is what it is joined of.
use Rattle.std.proofs.Common.{◌≡◌, refl, sym, ap, subst, ◌∙◌, ℕ, ◌+◌, ◌-◌, ◌<◌, ◌≤◌, drop, get_or, Bool, true, false, ◌&&◌, ◌||◌, ◌==◌, List, [], ◌∷◌, ◌++◌, length, map, inl, inr, arith}
use Rattle.std.specs.Prelude.{nat_le, nat_lt, filter, flat_map, if◌then◌else◌}
use Rattle.std.specs.List.{list_all, list_any, sum_by}
use Rattle.std.proofs.lemmas.List.{at_drop_more, length-map}
use Rattle.std.proofs.lemmas.Bool.{and_parts, and_from, eqb-true, eq-eqb, leb-true, le-leb, false≢true, cases_Bool}
use Rattle.value_core.specs.declared.value.ColType.{ColType}
use Rattle.predicate_core.specs.declared.pred.Pred.{Pred}
use Rattle.predicate_core.proofs.OnceLists.{In, in_map}
use Rattle.table_core.specs.Rows.{Row, types_of}
use Rattle.table_core.specs.Bag.{count}
use Rattle.table_core.specs.declared.task.TaskParts.{TaskParts}
use Rattle.query_core.specs.Firsts.{projected, firsts}
use Rattle.query_core.specs.Grammar.{maps}
use Rattle.query_core.specs.Meaning.{selected}
use Rattle.query_core.specs.Tree.{Tree}
use Rattle.bit_rows.specs.Bits.{and_bits, or_bits}
use Rattle.bit_rows.specs.Masked.{masked}
use Rattle.bit_classes.specs.declared.join.Join.{Join}
use Rattle.bit_classes.specs.declared.join.Join.TheVariants.{And, Or}
use Rattle.bit_classes.specs.Sieves.{IsSieve}
use Rattle.bit_classes.specs.Vectors.{combined}
use Rattle.bit_classes.proofs.SplitLaws.{joined_length}
use Rattle.fill_core.specs.Choices.{is_wanted}
use Rattle.fill_core.specs.Offers.{filled_by, Sifts}
use Rattle.fill_core.specs.declared.choice.Choice.{Choice}
use Rattle.map_walk.specs.Targets.{ones, are_enough}
use Rattle.map_walk.specs.declared.target.Reading.{Reading}
use Rattle.map_walk.specs.declared.target.Target.{Target}
use Rattle.map_walk.proofs.OpenLaws.{any_in, any_follow}
use Rattle.map_walk.proofs.RowCountLaws.{both_same}
use Rattle.map_walk.proofs.WalkLaws.{ones_next}
use Rattle.root_search.specs.Answers.{answers_on}
use Rattle.root_search.specs.Reads.{read_answer, read_answers}
use Rattle.root_search.specs.Readings.{reading_of, readings}
use Rattle.root_search.specs.Targets.{rows_give, shared, target_of, targets, each_found, bits_give}
use Rattle.root_search.specs.Wanted.{Looked, AreWide, has_enough, is_within, may_be_wanted, may_want}
use Rattle.root_search.proofs.BitLaws.{given_by_bits, all_follow, found_is, total_is, sum_targets}
use Rattle.root_search.proofs.CountLaws.{within, are_within, within_most, given_within}
use Rattle.root_search.proofs.ReadLaws.{choice_is, readings_wide}

-- ---- AND takes candidates away

pub shared_first : (a b mask : List Bool) → shared (and_bits a b) mask ≤ shared a mask
shared_first [] b mask = omega arith
shared_first (x ∷ a) [] mask = omega arith
shared_first (x ∷ a) (y ∷ b) [] = omega arith
shared_first (true ∷ a) (true ∷ b) (m ∷ mask) = omega (arith, shared_first a b mask, ones_next m (and_bits (and_bits a b) mask), ones_next m (and_bits a mask))
shared_first (true ∷ a) (false ∷ b) (m ∷ mask) = omega (arith, shared_first a b mask, ones_next false (and_bits (and_bits a b) mask), ones_next m (and_bits a mask))
shared_first (false ∷ a) (y ∷ b) (m ∷ mask) = omega (arith, shared_first a b mask, ones_next false (and_bits (and_bits a b) mask), ones_next false (and_bits a mask))

pub shared_second : (a b mask : List Bool) → shared (and_bits a b) mask ≤ shared b mask
shared_second [] b mask = omega arith
shared_second (x ∷ a) [] mask = omega arith
shared_second (x ∷ a) (y ∷ b) [] = omega arith
shared_second (true ∷ a) (true ∷ b) (m ∷ mask) = omega (arith, shared_second a b mask, ones_next m (and_bits (and_bits a b) mask), ones_next m (and_bits b mask))
shared_second (true ∷ a) (false ∷ b) (m ∷ mask) = omega (arith, shared_second a b mask, ones_next false (and_bits (and_bits a b) mask), ones_next false (and_bits b mask))
shared_second (false ∷ a) (true ∷ b) (m ∷ mask) = omega (arith, shared_second a b mask, ones_next false (and_bits (and_bits a b) mask), ones_next m (and_bits b mask))
shared_second (false ∷ a) (false ∷ b) (m ∷ mask) = omega (arith, shared_second a b mask, ones_next false (and_bits (and_bits a b) mask), ones_next false (and_bits b mask))

-- bits that have enough for a reading have so where they keep more
pub enough_more : (bits more : List Bool) → ((mask : List Bool) → shared bits mask ≤ shared more mask) → (r : Reading) → has_enough bits r ≡ true → has_enough more r ≡ true
enough_more bits more most r has =
    all_follow (λ t. nat_le t.copies (shared bits t.mask)) (λ t. nat_le t.copies (shared more t.mask)) r.targets
    (λ t e. le-leb _ _ (let below = leb-true _ _ e in let m = most t.mask in omega (arith, below, m))) has

-- ---- OR adds some

module _ (f : Row → Row) where
  kept_first : (a b : List Bool) (cs : List Row) (x : Row) → length a ≡ length b → In x (map f (masked a cs)) → In x (map f (masked (or_bits a b) cs))
  kept_first [] b cs x same i = absurd i
  kept_first (p ∷ a) [] cs x same i = absurd (omega (arith, same))
  kept_first (p ∷ a) (q ∷ b) [] x same i = absurd i
  kept_first (true ∷ a) (q ∷ b) (c ∷ cs) x same (inl e) = inl e
  kept_first (true ∷ a) (q ∷ b) (c ∷ cs) x same (inr i) = inr (kept_first a b cs x (omega (arith, same)) i)
  kept_first (false ∷ a) (true ∷ b) (c ∷ cs) x same i = inr (kept_first a b cs x (omega (arith, same)) i)
  kept_first (false ∷ a) (false ∷ b) (c ∷ cs) x same i = kept_first a b cs x (omega (arith, same)) i

  kept_second : (a b : List Bool) (cs : List Row) (x : Row) → length a ≡ length b → In x (map f (masked b cs)) → In x (map f (masked (or_bits a b) cs))
  kept_second a [] cs x same i = absurd i
  kept_second [] (q ∷ b) cs x same i = absurd (omega (arith, same))
  kept_second (p ∷ a) (q ∷ b) [] x same i = absurd i
  kept_second (true ∷ a) (true ∷ b) (c ∷ cs) x same (inl e) = inl e
  kept_second (true ∷ a) (true ∷ b) (c ∷ cs) x same (inr i) = inr (kept_second a b cs x (omega (arith, same)) i)
  kept_second (true ∷ a) (false ∷ b) (c ∷ cs) x same i = inr (kept_second a b cs x (omega (arith, same)) i)
  kept_second (false ∷ a) (true ∷ b) (c ∷ cs) x same (inl e) = inl e
  kept_second (false ∷ a) (true ∷ b) (c ∷ cs) x same (inr i) = inr (kept_second a b cs x (omega (arith, same)) i)
  kept_second (false ∷ a) (false ∷ b) (c ∷ cs) x same i = kept_second a b cs x (omega (arith, same)) i

module _ (picks : List ℕ) (candidates output : List Row) where
  -- bits are within a reading where each row that they keep is one of the output's, and there alone
  module _ (bits : List Bool) (long : length bits ≡ length candidates) where
    places : sum_by (λ t. shared bits t.mask) (targets picks candidates output) ≡ sum_by (count (selected picks (masked bits candidates))) (firsts output)
    places = sum_targets (λ t. shared bits t.mask) (target_of picks candidates output) (firsts output) ∙ ap (λ f. sum_by f (firsts output)) (sym (found_is picks bits candidates output long))

    pub within_from : ((x : Row) → In x (selected picks (masked bits candidates)) → In x output) → is_within bits (reading_of candidates output picks) ≡ true
    within_from each =
        le-leb _ _ (let all = within (selected picks (masked bits candidates)) output each in let total = total_is picks bits candidates output long in omega (arith, all, total, places))

    within_to : is_within bits (reading_of candidates output picks) ≡ true → (x : Row) → In x (selected picks (masked bits candidates)) → In x output
    within_to is x i =
        are_within (selected picks (masked bits candidates)) output x
        (let below = leb-true _ _ is in let most = within_most (selected picks (masked bits candidates)) output in let total = total_is picks bits candidates output long in omega (arith, below, most, total, places)) i

  pub within_less : (a b : List Bool) → length a ≡ length candidates → length b ≡ length candidates → length (or_bits a b) ≡ length candidates → is_within (or_bits a b) (reading_of candidates output picks) ≡ true
      → (is_within a (reading_of candidates output picks) ≡ true) × (is_within b (reading_of candidates output picks) ≡ true)
  within_less a b long_a long_b long is =
      let each = within_to (or_bits a b) long is in (
        within_from a long_a (λ x i. each x (kept_first (projected picks) a b candidates x (long_a ∙ sym long_b) i)),
        within_from b long_b (λ x i. each x (kept_second (projected picks) a b candidates x (long_a ∙ sym long_b) i)),
      )

-- ---- a choice that gives the output may be wanted

pub given_enough : (distinct : Bool) (wanted : ℕ) (bits : List Bool) (ts : List Target) → bits_give distinct wanted bits ts ≡ true → list_all (λ t. nat_le t.copies (shared bits t.mask)) ts ≡ true
given_enough true wanted bits ts given =
    all_follow (λ t. nat_le 1 (shared bits t.mask) && (t.copies == 1)) (λ t. nat_le t.copies (shared bits t.mask)) ts
    (λ t h. let parts = and_parts (nat_le 1 (shared bits t.mask)) (t.copies == 1) h in le-leb _ _ (omega (arith, leb-true _ _ parts.0, eqb-true _ _ parts.1)))
    (and_parts (ones bits == sum_by (λ t. shared bits t.mask) ts) (list_all (λ t. nat_le 1 (shared bits t.mask) && (t.copies == 1)) ts)
    (and_parts (nat_lt wanted (ones bits)) (each_found (ones bits) bits ts) given).1).1
given_enough false wanted bits ts given =
    all_follow (λ t. shared bits t.mask == t.copies) (λ t. nat_le t.copies (shared bits t.mask)) ts
    (λ t h. le-leb _ _ (omega (arith, eqb-true _ _ h)))
    (and_parts (ones bits == wanted) (list_all (λ t. shared bits t.mask == t.copies) ts) given).1

module _ (types : List ColType) (candidates : List Row) (task : TaskParts) (bits : List Bool) (long : length bits ≡ length candidates) where
  abbrev its : List Reading
  its = readings types candidates task.output

  -- by some reading that gives it
  given_wanted : (distinct : Bool) (r : Reading) → In r its → bits_give distinct (length task.output.rows) bits r.targets ≡ true → (join : Join) → may_be_wanted join its bits ≡ true
  given_wanted distinct r i given And = any_in (has_enough bits) r its i (given_enough distinct (length task.output.rows) bits r.targets given)
  given_wanted distinct r i given Or =
      let picked = filter (λ picks. are_enough (targets picks candidates task.output.rows)) (maps types (types_of task.output)) in
      let h = in_map (reading_of candidates task.output.rows) r picked i in
      let rows = selected h.0 (masked bits candidates) in
      let by_rows : rows_give h.0 distinct (masked bits candidates) task.output.rows ≡ true = given_by_bits h.0 distinct bits candidates task.output.rows long ∙ ap (λ (q : Reading). bits_give distinct (length task.output.rows) bits q.targets) (sym h.2) ∙ given in
      any_in (is_within bits) r its i (ap (is_within bits) h.2 ∙ within_from h.0 candidates task.output.rows bits long (given_within distinct rows task.output.rows by_rows))

pub flat_map_none : {X Y : Type 0} (f : X → List Y) (xs : List X) → ((x : X) → In x xs → f x ≡ []) → flat_map f xs ≡ []
flat_map_none f [] none = refl
flat_map_none f (x ∷ xs) none = rw (none x (inl refl)) (flat_map_none f xs (λ y i. none y (inr i)))

module _ (task : TaskParts) (n : ℕ) (skeleton : Tree) (types : List ColType) (candidates : List Row) where
  abbrev all : Looked
  all = record { readings = readings types candidates task.output; width = length candidates }

  -- what is told of bits of the candidates
  told : (join : Join) (bits : List Bool) → length bits ≡ length candidates → may_want all join bits ≡ may_be_wanted join all.readings bits
  told join bits long = ap (λ b. if b then may_be_wanted join all.readings bits else true) (eq-eqb _ _ long)

  -- a choice that may not be wanted gives nothing
  unwanted : (preds : List Pred) (c : Choice) → length c.bits ≡ length candidates → is_wanted (may_want all) c ≡ false → answers_on task n skeleton (filled_by types preds candidates c) ≡ []
  unwanted preds c long out =
      sym (choice_is task n skeleton types preds candidates c long)
      ∙ flat_map_none (read_answers task n skeleton preds c) all.readings (λ r i. ap (λ x. x ++ read_answer task n skeleton preds c r true) (none r i false) ∙ none r i true)
    where
      refused : (distinct : Bool) (r : Reading) → In r all.readings → bits_give distinct (length task.output.rows) c.bits r.targets ≡ false
      refused distinct r i = elim (cases_Bool (bits_give distinct (length task.output.rows) c.bits r.targets)) as (λ w. bits_give distinct (length task.output.rows) c.bits r.targets ≡ false) [
        | inl given ↦
            let by : (join : Join) → may_want all join c.bits ≡ true = λ join. told join c.bits long ∙ given_wanted types candidates task c.bits long distinct r i given join in
            absurd (false≢true (sym out ∙ and_from (may_want all And c.bits) (may_want all Or c.bits) (by And) (by Or)))
        | inr not_given ↦ not_given
      ]

      none : (r : Reading) → In r all.readings → (distinct : Bool) → read_answer task n skeleton preds c r distinct ≡ []
      none r i distinct = rw (refused distinct r i) refl

  any_made : (p : Reading → Bool) (ps : List (List ℕ)) → list_any p (map (reading_of candidates task.output.rows) ps) ≡ list_any (λ picks. p (reading_of candidates task.output.rows picks)) ps
  any_made p [] = refl
  any_made p (picks ∷ ps) = ap (λ b. p (reading_of candidates task.output.rows picks) || b) (any_made p ps)

  -- where two may be wanted joined, so may each
  apart : (join : Join) (a b : List Bool) → length a ≡ length candidates → length b ≡ length candidates → length (combined join a b) ≡ length candidates → may_be_wanted join all.readings (combined join a b) ≡ true
      → (may_be_wanted join all.readings a ≡ true) × (may_be_wanted join all.readings b ≡ true)
  apart And a b long_a long_b long may = (
    any_follow (has_enough (and_bits a b)) (has_enough a) all.readings (enough_more (and_bits a b) a (shared_first a b)) may,
    any_follow (has_enough (and_bits a b)) (has_enough b) all.readings (enough_more (and_bits a b) b (shared_second a b)) may,
  )
  apart Or a b long_a long_b long may =
      let read = reading_of candidates task.output.rows in
      let picked = filter (λ picks. are_enough (targets picks candidates task.output.rows)) (maps types (types_of task.output)) in
      let joined : list_any (λ picks. is_within (or_bits a b) (read picks)) picked ≡ true = sym (any_made (is_within (or_bits a b)) picked) ∙ may in (
        any_made (is_within a) picked ∙ any_follow (λ picks. is_within (or_bits a b) (read picks)) (λ picks. is_within a (read picks)) picked (λ picks e. (within_less picks candidates task.output.rows a b long_a long_b long e).0) joined,
        any_made (is_within b) picked ∙ any_follow (λ picks. is_within (or_bits a b) (read picks)) (λ picks. is_within b (read picks)) picked (λ picks e. (within_less picks candidates task.output.rows a b long_a long_b long e).1) joined,
      )

  is_sieve : IsSieve (length candidates) (may_want all)
  is_sieve join a b long_a long_b may =
      let long : length (combined join a b) ≡ length candidates = joined_length join a b (long_a ∙ sym long_b) ∙ long_a in
      let each = apart join a b long_a long_b long (sym (told join (combined join a b) long) ∙ may) in
      (told join a long_a ∙ each.0, told join b long_b ∙ each.1)

  -- what was looked at sifts
  pub looked_sifts : (looked : Looked) → looked.readings ≡ readings types candidates task.output → looked.width ≡ length candidates → Sifts (answers_on task n skeleton) types candidates (may_want looked)
  looked_sifts looked is_readings is_width =
      let same : all ≡ looked = ap (λ rs. let l : Looked = record { readings = rs; width = length candidates } in l) (sym is_readings) ∙ ap (λ w. let l : Looked = record { readings = looked.readings; width = w } in l) (sym is_width) in
      subst (λ l. Sifts (answers_on task n skeleton) types candidates (may_want l)) same (is_sieve, unwanted)

-- the masks of readings of so many candidates are wide enough
pub are_wide : (types : List ColType) (candidates : List Row) (task : TaskParts) → AreWide (length candidates) (readings types candidates task.output)
are_wide types candidates task =
    let bits : List Bool = map (λ row. true) candidates in
    let long : length bits ≡ length candidates = length-map candidates (λ row. true) in
    subst (λ w. AreWide w (readings types candidates task.output)) long (readings_wide types candidates task bits long)

-- ---- in turn

-- what is left to be found after a target more
pub less_left : (left found rest : ℕ) (b : Bool) → nat_le left (found + rest) ≡ b → nat_le (left - found) rest ≡ b
less_left left found rest b is =
    both_same (nat_le (left - found) rest) (nat_le left (found + rest)) (λ e. le-leb _ _ (let h = leb-true _ _ e in omega (arith, h))) (λ e. le-leb _ _ (let h = leb-true _ _ e in omega (arith, h))) ∙ is

-- whether some reading is within, after one more
pub within_next : (bits : List Bool) (rs : List Reading) (i : ℕ) (r : Reading) (ts : List Target) (b whole : Bool) → i < length rs → ts ≡ (get_or rs i r).targets → b ≡ nat_le (ones bits) (sum_by (λ t. shared bits t.mask) ts)
    → whole ≡ list_any (is_within bits) (drop i rs) → whole ≡ b || list_any (is_within bits) (drop (i + 1) rs)
within_next bits rs i r ts b whole below are here so_far =
    so_far ∙ at_drop_more (list_any (is_within bits)) rs i r below
    ∙ ap (λ c. c || list_any (is_within bits) (drop (i + 1) rs)) (ap (λ xs. nat_le (ones bits) (sum_by (λ t. shared bits t.mask) xs)) (sym are) ∙ sym here)
