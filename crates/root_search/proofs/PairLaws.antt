-- What the readings of a left join's candidates tell of its pairs alone: a choice of pairs that gives the output as a left join's may be wanted, and so may what it is joined of.
use Rattle.std.proofs.Common.{◌≡◌, refl, sym, ap, ap₂, subst, ◌∙◌, ℕ, zero, suc, ◌+◌, ◌-◌, ◌*◌, ◌<◌, ◌≤◌, Bool, true, false, not, ◌&&◌, ◌||◌, List, [], ◌∷◌, ◌++◌, length, map, take, drop, append_assoc, inl, inr, arith}
use Rattle.std.specs.Prelude.{nat_le, All, filter, if◌then◌else◌}
use Rattle.std.specs.List.{list_any, sum_by}
use Rattle.std.proofs.lemmas.Bool.{and_from, leb-true, le-leb, eq-eqb, false≢true, cases_Bool}
use Rattle.std.proofs.lemmas.List.{drop-drop, length-append, length-drop, length-map, length-take-le, take-append-drop, take-map, drop-map, map-append}
use Rattle.std.proofs.lemmas.List.Elements.{All-map, All-weaker}
use Rattle.std.proofs.lemmas.List.Folds.{list_all-map}
use Rattle.value_core.specs.declared.value.ColType.{ColType}
use Rattle.predicate_core.specs.declared.pred.Pred.{Pred}
use Rattle.predicate_core.proofs.OnceLists.{In, in_append, in_map}
use Rattle.table_core.specs.Rows.{Row, types_of}
use Rattle.table_core.specs.Bag.{same_cells}
use Rattle.table_core.specs.declared.task.TaskParts.{TaskParts}
use Rattle.query_core.specs.Firsts.{projected, firsts}
use Rattle.query_core.specs.Grammar.{maps}
use Rattle.query_core.specs.Meaning.{selected}
use Rattle.query_core.specs.Tree.{Tree}
use Rattle.query_laws.proofs.MemberLaws.{in_front, in_back}
use Rattle.bit_rows.specs.Bits.{and_bits, or_bits}
use Rattle.bit_rows.specs.Masked.{masked}
use Rattle.bit_classes.specs.declared.join.Join.{Join}
use Rattle.bit_classes.specs.declared.join.Join.TheVariants.{And, Or}
use Rattle.bit_classes.specs.Sieves.{IsSieve}
use Rattle.bit_classes.specs.Vectors.{combined}
use Rattle.bit_classes.proofs.SplitLaws.{joined_length}
use Rattle.fill_core.specs.Choices.{is_wanted, left_choice, with_alone}
use Rattle.fill_core.specs.Offers.{filled_by, SiftsPairs}
use Rattle.fill_core.specs.declared.choice.Choice.{Choice}
use Rattle.fill_core.proofs.MaskLaws.{masked_append, length_with_alone}
use Rattle.map_walk.specs.Targets.{ones, are_enough}
use Rattle.map_walk.specs.declared.target.Reading.{Reading}
use Rattle.map_walk.specs.declared.target.Target.{Target}
use Rattle.map_walk.proofs.OpenLaws.{any_follow}
use Rattle.map_walk.proofs.WalkLaws.{ones_next}
use Rattle.root_search.specs.Answers.{answers_on}
use Rattle.root_search.specs.Reads.{read_answer, read_answers}
use Rattle.root_search.specs.Readings.{reading_of, readings}
use Rattle.root_search.specs.Targets.{rows_give, shared, mask_of, target_of, targets, bits_give}
use Rattle.root_search.specs.Wanted.{Looked, AreWide, has_enough, is_within, may_be_wanted, may_want, paired, paired_target, paired_reading, paired_looked}
use Rattle.root_search.proofs.BitLaws.{given_by_bits, all_follow, shared_most, sum_targets}
use Rattle.root_search.proofs.CountLaws.{given_within}
use Rattle.root_search.proofs.ReadLaws.{choice_is}
use Rattle.root_search.proofs.WantedLaws.{enough_more, shared_first, shared_second, within_from, within_less, given_enough, flat_map_none}

-- ---- lists of pairs and padded rows

-- a left row's pairs, what stands behind them, and the rest
parts_are : {A : Type 0} (rights : ℕ) (xs : List A) → take rights xs ++ (take 1 (drop rights xs) ++ drop 1 (drop rights xs)) ≡ xs
parts_are rights xs = ap (λ t. take rights xs ++ t) (take-append-drop 1 (drop rights xs)) ∙ take-append-drop rights xs

times_more : (n m : ℕ) → suc n * m ≡ m + n * m
times_more n m = search arith

-- how long they are, of so many left rows more
module _ {A : Type 0} (lefts rights : ℕ) (xs : List A) (long : length xs ≡ suc lefts * rights + suc lefts) where
  front_long : length (take rights xs) ≡ rights
  front_long = length-take-le rights xs (omega (arith, long, times_more lefts rights))

  behind_long : length (take 1 (drop rights xs)) ≡ 1
  behind_long = length-take-le 1 (drop rights xs) (omega (arith, long, times_more lefts rights, length-drop rights xs))

  rest_long : length (drop 1 (drop rights xs)) ≡ lefts * rights + lefts
  rest_long = omega (arith, long, times_more lefts rights, length-drop rights xs, length-drop 1 (drop rights xs))

module _ {A : Type 0} (lefts rights : ℕ) (bits : List A) (long : length bits ≡ suc lefts * rights) where
  bits_front : length (take rights bits) ≡ rights
  bits_front = length-take-le rights bits (omega (arith, long, times_more lefts rights))

  bits_rest : length (drop rights bits) ≡ lefts * rights
  bits_rest = omega (arith, long, times_more lefts rights, length-drop rights bits)

no_times : (m : ℕ) → 0 * m ≡ 0
no_times m = search arith

length_paired : {A : Type 0} (lefts rights : ℕ) (xs : List A) → length xs ≡ lefts * rights + lefts → length (paired lefts rights xs) ≡ lefts * rights
length_paired zero rights xs long = sym (no_times rights)
length_paired (suc lefts) rights xs long =
    omega (
      arith,
      times_more lefts rights,
      length-append (take rights xs) (paired lefts rights (drop 1 (drop rights xs))),
      front_long lefts rights xs long,
      length_paired lefts rights (drop 1 (drop rights xs)) (rest_long lefts rights xs long),
    )

map_paired : {A B : Type 0} (f : A → B) (lefts rights : ℕ) (xs : List A) → paired lefts rights (map f xs) ≡ map f (paired lefts rights xs)
map_paired f zero rights xs = refl
map_paired f (suc lefts) rights xs =
    ap₂ (λ a b. a ++ b) (take-map f rights xs)
    (ap (paired lefts rights) (ap (drop 1) (drop-map f rights xs) ∙ drop-map f 1 (drop rights xs)) ∙ map_paired f lefts rights (drop 1 (drop rights xs)))
    ∙ sym (map-append f (take rights xs) (paired lefts rights (drop 1 (drop rights xs))))

-- ---- counts of bits

ones_append : (a b : List Bool) → ones (a ++ b) ≡ ones a + ones b
ones_append [] b = omega arith
ones_append (x ∷ a) b = omega (arith, ones_next x (a ++ b), ones_next x a, ones_append a b)

shared_append : (a b c d : List Bool) → length a ≡ length c → shared (a ++ b) (c ++ d) ≡ shared a c + shared b d
shared_append [] b [] d same = omega arith
shared_append [] b (z ∷ c) d same = absurd (omega (arith, same))
shared_append (x ∷ a) b [] d same = absurd (omega (arith, same))
shared_append (x ∷ a) b (z ∷ c) d same =
    omega (arith, ones_next (x && z) (and_bits (a ++ b) (c ++ d)), ones_next (x && z) (and_bits a c), shared_append a b c d (omega (arith, same)))

-- a target's candidates that a left join keeps are at most those of its pairs that are kept, and all padded ones
shared_pairs : (lefts rights : ℕ) (bits mask : List Bool) → length bits ≡ lefts * rights → length mask ≡ lefts * rights + lefts
    → shared (with_alone lefts rights bits) mask + ones (paired lefts rights mask) ≤ shared bits (paired lefts rights mask) + ones mask
shared_pairs zero rights bits mask long wide = omega arith
shared_pairs (suc lefts) rights bits mask long wide =
    let bp = take rights bits in
    let br = drop rights bits in
    let mp = take rights mask in
    let ms = take 1 (drop rights mask) in
    let mr = drop 1 (drop rights mask) in
    let alone : List Bool = not (list_any (λ b. b) bp) ∷ [] in
    let later = with_alone lefts rights br in
    let left : shared (with_alone (suc lefts) rights bits) mask ≡ shared bp mp + (shared alone ms + shared later mr) =
    ap₂ shared (append_assoc bp alone later) (sym (parts_are rights mask))
    ∙ shared_append bp (alone ++ later) mp (ms ++ mr) (bits_front lefts rights bits long ∙ sym (front_long lefts rights mask wide))
    ∙ ap (λ n. shared bp mp + n) (shared_append alone later ms mr (sym (behind_long lefts rights mask wide))) in
    let right : shared bits (paired (suc lefts) rights mask) ≡ shared bp mp + shared br (paired lefts rights mr) =
    ap (λ b. shared b (mp ++ paired lefts rights mr)) (sym (take-append-drop rights bits))
    ∙ shared_append bp br mp (paired lefts rights mr) (bits_front lefts rights bits long ∙ sym (front_long lefts rights mask wide)) in
    let all : ones mask ≡ ones mp + (ones ms + ones mr) = ap ones (sym (parts_are rights mask)) ∙ ones_append mp (ms ++ mr) ∙ ap (λ n. ones mp + n) (ones_append ms mr) in
    omega (
      arith,
      left,
      right,
      all,
      ones_append mp (paired lefts rights mr),
      shared_most alone ms,
      shared_pairs lefts rights br mr (bits_rest lefts rights bits long) (rest_long lefts rights mask wide),
    )

-- a row of a pair that is kept is one of those that the left join keeps
kept_pair : (f : Row → Row) (lefts rights : ℕ) (bits : List Bool) (cs : List Row) (x : Row) → length bits ≡ lefts * rights → length cs ≡ lefts * rights + lefts
    → In x (map f (masked bits (paired lefts rights cs))) → In x (map f (masked (with_alone lefts rights bits) cs))
kept_pair f zero rights bits cs x long wide i = absurd (none bits i)
  where
    none : (bs : List Bool) → In x (map f (masked bs [])) → ⊥
    none [] i = i
    none (b ∷ bs) i = i
kept_pair f (suc lefts) rights bits cs x long wide i =
    let bp = take rights bits in
    let br = drop rights bits in
    let cp = take rights cs in
    let cb = take 1 (drop rights cs) in
    let cr = drop 1 (drop rights cs) in
    let alone : List Bool = not (list_any (λ b. b) bp) ∷ [] in
    let later = with_alone lefts rights br in
    let all : masked (with_alone (suc lefts) rights bits) cs ≡ masked bp cp ++ (masked alone cb ++ masked later cr) =
    ap₂ masked (append_assoc bp alone later) (sym (parts_are rights cs))
    ∙ masked_append bp (alone ++ later) cp (cb ++ cr) (bits_front lefts rights bits long ∙ sym (front_long lefts rights cs wide))
    ∙ ap (λ t. masked bp cp ++ t) (masked_append alone later cb cr (sym (behind_long lefts rights cs wide))) in
    let pairs : masked bits (paired (suc lefts) rights cs) ≡ masked bp cp ++ masked br (paired lefts rights cr) =
    ap (λ b. masked b (cp ++ paired lefts rights cr)) (sym (take-append-drop rights bits))
    ∙ masked_append bp br cp (paired lefts rights cr) (bits_front lefts rights bits long ∙ sym (front_long lefts rights cs wide)) in
    let there : In x (map f (masked bp cp) ++ map f (masked br (paired lefts rights cr))) = subst (In x) (ap (map f) pairs ∙ map-append f (masked bp cp) (masked br (paired lefts rights cr))) i in
    let whole : map f (masked (with_alone (suc lefts) rights bits) cs) ≡ map f (masked bp cp) ++ (map f (masked alone cb) ++ map f (masked later cr)) =
    ap (map f) all ∙ map-append f (masked bp cp) (masked alone cb ++ masked later cr) ∙ ap (λ t. map f (masked bp cp) ++ t) (map-append f (masked alone cb) (masked later cr)) in
    subst (In x) (sym whole)
    (elim (in_append x (map f (masked bp cp)) (map f (masked br (paired lefts rights cr))) there) [
      | inl front ↦ in_front x (map f (masked bp cp)) (map f (masked alone cb) ++ map f (masked later cr)) front
      | inr rest ↦
          in_back x (map f (masked bp cp)) (map f (masked alone cb) ++ map f (masked later cr))
          (in_back x (map f (masked alone cb)) (map f (masked later cr)) (kept_pair f lefts rights br cr x (bits_rest lefts rights bits long) (rest_long lefts rights cs wide) rest))
    ])

-- ---- readings told of pairs

module _ (task : TaskParts) (n : ℕ) (skeleton : Tree) (types : List ColType) (candidates : List Row) (lefts rights : ℕ) (wide : length candidates ≡ lefts * rights + lefts) where
  abbrev output : List Row
  output = task.output.rows

  abbrev pairs : List Row
  pairs = paired lefts rights candidates

  abbrev picked : List (List ℕ)
  picked = filter (λ picks. are_enough (targets picks candidates output)) (maps types (types_of task.output))

  abbrev its : List Reading
  its = readings types candidates task.output

  abbrev told : Looked
  told = paired_looked lefts rights (record { readings = its; width = length candidates })

  pairs_long : length pairs ≡ lefts * rights
  pairs_long = length_paired lefts rights candidates wide

  mask_told : (picks : List ℕ) (y : Row) → paired lefts rights (mask_of picks candidates y) ≡ mask_of picks pairs y
  mask_told picks y = map_paired (λ c. same_cells (projected picks c) y) lefts rights candidates

  -- bits are within a reading that is told of pairs where they are within the pairs' own
  within_told : (bits : List Bool) (picks : List ℕ) → is_within bits (paired_reading lefts rights (reading_of candidates output picks)) ≡ is_within bits (reading_of pairs output picks)
  within_told bits picks =
      ap (nat_le (ones bits))
      (sum_targets (λ t. shared bits t.mask) (paired_target lefts rights) (targets picks candidates output)
      ∙ sum_targets (λ t. shared bits (paired lefts rights t.mask)) (target_of picks candidates output) (firsts output)
      ∙ ap (λ f. sum_by f (firsts output)) (λ i y. shared bits (mask_told picks y i))
      ∙ sym (sum_targets (λ t. shared bits t.mask) (target_of picks pairs output) (firsts output)))

  any_told : (p : Reading → Bool) (ps : List (List ℕ))
      → list_any p (map (paired_reading lefts rights) (map (reading_of candidates output) ps)) ≡ list_any (λ picks. p (paired_reading lefts rights (reading_of candidates output picks))) ps
  any_told p [] = refl
  any_told p (picks ∷ ps) = ap (λ b. p (paired_reading lefts rights (reading_of candidates output picks)) || b) (any_told p ps)

  any_there : (p : Reading → Bool) (rs : List Reading) (r : Reading) → In r rs → p (paired_reading lefts rights r) ≡ true → list_any p (map (paired_reading lefts rights) rs) ≡ true
  any_there p [] r i passes = absurd i
  any_there p (q ∷ rs) r (inl e) passes = ap (λ b. b || list_any p (map (paired_reading lefts rights) rs)) (ap (λ z. p (paired_reading lefts rights z)) (sym e) ∙ passes)
  any_there p (q ∷ rs) r (inr i) passes = or_later (p (paired_reading lefts rights q)) _ (any_there p rs r i passes)
    where
      or_later : (a b : Bool) → b ≡ true → a || b ≡ true
      or_later true b e = refl
      or_later false b e = e

  -- what is told of bits of the pairs
  told_there : (join : Join) (bits : List Bool) → length bits ≡ lefts * rights → may_want told join bits ≡ may_be_wanted join told.readings bits
  told_there join bits long = ap (λ b. if b then may_be_wanted join told.readings bits else true) (eq-eqb _ _ long)

  apart : (join : Join) (a b : List Bool) → length a ≡ lefts * rights → length b ≡ lefts * rights → length (combined join a b) ≡ lefts * rights → may_be_wanted join told.readings (combined join a b) ≡ true
      → (may_be_wanted join told.readings a ≡ true) × (may_be_wanted join told.readings b ≡ true)
  apart And a b long_a long_b long may = (
    any_follow (has_enough (and_bits a b)) (has_enough a) told.readings (enough_more (and_bits a b) a (shared_first a b)) may,
    any_follow (has_enough (and_bits a b)) (has_enough b) told.readings (enough_more (and_bits a b) b (shared_second a b)) may,
  )
  apart Or a b long_a long_b long may =
      let read : List ℕ → Reading = λ picks. paired_reading lefts rights (reading_of candidates output picks) in
      let joined : list_any (λ picks. is_within (or_bits a b) (read picks)) picked ≡ true = sym (any_told (is_within (or_bits a b)) picked) ∙ may in
      let each : (picks : List ℕ) → is_within (or_bits a b) (read picks) ≡ true → (is_within a (read picks) ≡ true) × (is_within b (read picks) ≡ true) = λ picks e.
      let h = within_less picks pairs output a b (long_a ∙ sym pairs_long) (long_b ∙ sym pairs_long) (long ∙ sym pairs_long) (sym (within_told (or_bits a b) picks) ∙ e) in
      (within_told a picks ∙ h.0, within_told b picks ∙ h.1) in (
        any_told (is_within a) picked ∙ any_follow (λ picks. is_within (or_bits a b) (read picks)) (λ picks. is_within a (read picks)) picked (λ picks e. (each picks e).0) joined,
        any_told (is_within b) picked ∙ any_follow (λ picks. is_within (or_bits a b) (read picks)) (λ picks. is_within b (read picks)) picked (λ picks e. (each picks e).1) joined,
      )

  is_sieve : IsSieve (lefts * rights) (may_want told)
  is_sieve join a b long_a long_b may =
      let long : length (combined join a b) ≡ lefts * rights = joined_length join a b (long_a ∙ sym long_b) ∙ long_a in
      let each = apart join a b long_a long_b long (sym (told_there join (combined join a b) long) ∙ may) in
      (told_there join a long_a ∙ each.0, told_there join b long_b ∙ each.1)

  -- where a choice of pairs gives the output by a reading as the left join's, it has enough for what is told of the reading
  enough_told : (bits : List Bool) (picks : List ℕ) → length bits ≡ lefts * rights → has_enough (with_alone lefts rights bits) (reading_of candidates output picks) ≡ true
      → has_enough bits (paired_reading lefts rights (reading_of candidates output picks)) ≡ true
  enough_told bits picks long has =
      let whole : Target → Bool = λ t. nat_le t.copies (shared (with_alone lefts rights bits) t.mask) in
      let part : Target → Bool = λ t. nat_le t.copies (shared bits t.mask) in
      let of : Row → Target = target_of picks candidates output in
      list_all-map part (paired_target lefts rights) (targets picks candidates output)
      ∙ list_all-map (λ t. part (paired_target lefts rights t)) of (firsts output)
      ∙ all_follow (λ y. whole (of y)) (λ y. part (paired_target lefts rights (of y))) (firsts output)
      (λ y e.
      le-leb _ _
      (let below = leb-true _ _ e in
      let most = shared_pairs lefts rights bits (mask_of picks candidates y) long (length-map candidates (λ c. same_cells (projected picks c) y) ∙ wide) in
      omega (arith, below, most))) (sym (list_all-map whole of (firsts output)) ∙ has)

  unwanted : (preds : List Pred) (c : Choice) → length c.bits ≡ lefts * rights → is_wanted (may_want told) c ≡ false → answers_on task n skeleton (filled_by types preds candidates (left_choice lefts rights c)) ≡ []
  unwanted preds c long out =
      sym (choice_is task n skeleton types preds candidates (left_choice lefts rights c) whole_long)
      ∙ flat_map_none (read_answers task n skeleton preds (left_choice lefts rights c)) its (λ r i. ap (λ x. x ++ read_answer task n skeleton preds (left_choice lefts rights c) r true) (none r i false) ∙ none r i true)
    where
      whole_long : length (with_alone lefts rights c.bits) ≡ length candidates
      whole_long = length_with_alone lefts rights c.bits long ∙ sym wide

      by : (distinct : Bool) (r : Reading) → In r its → bits_give distinct (length output) (with_alone lefts rights c.bits) r.targets ≡ true → (join : Join) → may_be_wanted join told.readings c.bits ≡ true
      by distinct r i given And =
          let h = in_map (reading_of candidates output) r picked i in
          let has = ap (has_enough (with_alone lefts rights c.bits)) (sym h.2) ∙ given_enough distinct (length output) (with_alone lefts rights c.bits) r.targets given in
          any_there (has_enough c.bits) its r i (ap (λ q. has_enough c.bits (paired_reading lefts rights q)) h.2 ∙ enough_told c.bits h.0 long has)
      by distinct r i given Or =
          let h = in_map (reading_of candidates output) r picked i in
          let by_rows : rows_give h.0 distinct (masked (with_alone lefts rights c.bits) candidates) output ≡ true =
          given_by_bits h.0 distinct (with_alone lefts rights c.bits) candidates output whole_long ∙ ap (λ (q : Reading). bits_give distinct (length output) (with_alone lefts rights c.bits) q.targets) (sym h.2) ∙ given in
          let each = given_within distinct (selected h.0 (masked (with_alone lefts rights c.bits) candidates)) output by_rows in
          let within = within_from h.0 pairs output c.bits (long ∙ sym pairs_long) (λ x k. each x (kept_pair (projected h.0) lefts rights c.bits candidates x long wide k)) in
          any_there (is_within c.bits) its r i (ap (λ q. is_within c.bits (paired_reading lefts rights q)) h.2 ∙ within_told c.bits h.0 ∙ within)

      refused : (distinct : Bool) (r : Reading) → In r its → bits_give distinct (length output) (with_alone lefts rights c.bits) r.targets ≡ false
      refused distinct r i = elim (cases_Bool (bits_give distinct (length output) (with_alone lefts rights c.bits) r.targets)) as (λ w. bits_give distinct (length output) (with_alone lefts rights c.bits) r.targets ≡ false) [
        | inl given ↦
            let may : (join : Join) → may_want told join c.bits ≡ true = λ join. told_there join c.bits long ∙ by distinct r i given join in
            absurd (false≢true (sym out ∙ and_from (may_want told And c.bits) (may_want told Or c.bits) (may And) (may Or)))
        | inr not_given ↦ not_given
      ]

      none : (r : Reading) → In r its → (distinct : Bool) → read_answer task n skeleton preds (left_choice lefts rights c) r distinct ≡ []
      none r i distinct = rw (refused distinct r i) refl

-- what is told of pairs sifts them
pub told_sifts : (task : TaskParts) (n : ℕ) (skeleton : Tree) (types : List ColType) (candidates : List Row) (lefts rights : ℕ) (looked of : Looked) → length candidates ≡ lefts * rights + lefts
    → looked.readings ≡ readings types candidates task.output → of ≡ paired_looked lefts rights looked → SiftsPairs (answers_on task n skeleton) types candidates lefts rights (may_want of)
told_sifts task n skeleton types candidates lefts rights looked of wide are is =
    let same : told task n skeleton types candidates lefts rights wide ≡ of = ap (λ rs. let l : Looked = record { readings = map (paired_reading lefts rights) rs; width = lefts * rights } in l) (sym are) ∙ sym is in
    subst (λ l. SiftsPairs (answers_on task n skeleton) types candidates lefts rights (may_want l)) same
    (is_sieve task n skeleton types candidates lefts rights wide, unwanted task n skeleton types candidates lefts rights wide)

-- ---- in turn

-- a left row more in a loop
pub paired_loop : (out more whole bits : List Bool) (left lefts rights from : ℕ) → left < lefts → more ≡ out ++ take rights (drop from bits)
    → out ++ paired (lefts - left) rights (drop from bits) ≡ whole → more ++ paired (lefts - (left + 1)) rights (drop (from + rights + 1) bits) ≡ whole
paired_loop out more whole bits left lefts rights from below pushed so_far =
    let n = lefts - (left + 1) in
    let e : lefts - left ≡ suc n = omega (arith, below) in
    let front = take rights (drop from bits) in
    let rest = paired n rights (drop (from + rights + 1) bits) in
    let step : paired (suc n) rights (drop from bits) ≡ front ++ rest = ap (λ bs. front ++ paired n rights bs) (ap (drop 1) (drop-drop rights from bits) ∙ drop-drop 1 (from + rights) bits) in
    ap (λ t. t ++ rest) pushed
    ∙ append_assoc out front rest
    ∙ ap (λ t. out ++ t) (sym step)
    ∙ ap (λ k. out ++ paired k rights (drop from bits)) (sym e)
    ∙ so_far

-- the masks of readings told of pairs have their length
pub paired_wide : (lefts rights : ℕ) (rs : List Reading) → AreWide (lefts * rights + lefts) rs → AreWide (lefts * rights) (map (paired_reading lefts rights) rs)
paired_wide lefts rights rs wide =
    All-map (λ (r : Reading). All (λ t. lefts * rights ≡ length t.mask) r.targets) (paired_reading lefts rights) rs
    (All-weaker (λ (r : Reading). All (λ t. lefts * rights + lefts ≡ length t.mask) r.targets) (λ r. All (λ t. lefts * rights ≡ length t.mask) (map (paired_target lefts rights) r.targets))
    (λ r all.
    All-map (λ (t : Target). lefts * rights ≡ length t.mask) (paired_target lefts rights) r.targets
    (All-weaker (λ (t : Target). lefts * rights + lefts ≡ length t.mask) (λ t. lefts * rights ≡ length (paired lefts rights t.mask)) (λ t e. sym (length_paired lefts rights t.mask (sym e))) r.targets all)) rs wide)
