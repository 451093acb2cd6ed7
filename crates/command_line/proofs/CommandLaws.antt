-- What clap reads is what the words mean.
use Rattle.std.proofs.Common.{◌≡◌, ℕ, ◌+◌, ◌<◌, ◌≤◌, ◌⊎◌, inl, inr, Bool, true, false, cond, ◌&&◌, ◌||◌, true≢false, List, [], ◌∷◌, Option, Some, None, refl, sym, ap, subst, ◌∙◌, arith}
use Rattle.std.specs.Prelude.{is_some, fold, count_by, if◌then◌else◌}
use Rattle.std.specs.Fmt.{digits}
use Rattle.std.specs.List.{list_all}
use Rattle.std.proofs.lemmas.Slice.Eq.{bytes_eq-Decides}
use Rattle.command_line.specs.Word.{is_known, is_operand, is_option, workers_of}
use Rattle.command_line.specs.Reading.{run_app, plain_app, parts_of, run_named, plain_named}
use Rattle.command_line.specs.Command.{run_by, run_of, plain_of}
use Rattle.command_line.proofs.WalkLaws.{IsBare, dashed, run_nothing, run_file, run_option, run_two_files, run_file_option, run_option_number, run_file_last, run_file_first, run_left_over_last, run_left_over_first, plain_nothing, plain_file, plain_two_files, plain_file_option, plain_option}
use Rattle.command_line.proofs.WordLaws.{both, view, spelled_operand}

abbrev Words : Type 0
Words = List (List ℕ)

-- ---- counting the options

abbrev once : List ℕ → ℕ
once w = cond (is_option w) 1 0

one : (w : List ℕ) → is_option w ≡ true → once w ≡ 1
one w e = ap (λ b. cond b 1 0) e

at_most : (b : Bool) → cond b 1 0 ≤ 1
at_most true = omega arith
at_most false = omega arith

more : (rest : Words) (k : ℕ) → k ≤ fold (λ n w. n + once w) k rest
more [] k = omega arith
more (w ∷ rest) k = let later = more rest (k + once w) in omega arith

four_of : (a b c d : List ℕ) (rest : Words) → once a + once b + once c + once d ≤ count_by is_option (a ∷ b ∷ c ∷ d ∷ rest)
four_of a b c d rest = let later = more rest (0 + once a + once b + once c + once d) in omega arith

-- ---- what clap reads

-- a known word begins with no `-`, or is the option
abbrev Kind : List ℕ → Type 0
Kind w = IsBare w ⊎ ((w ≡ dashed) × (is_option w ≡ true))

-- clap reads what the words after `run` ask for
abbrev Reads : Words → Type 0
Reads words = run_named (parts_of run_app words) ≡ run_of words

reads_one : (a : List ℕ) → Kind a → Reads (a ∷ [])
reads_one a (inl x) = ap run_named (run_file a x)
reads_one a (inr e) = subst (λ w. Reads (w ∷ [])) (sym e.0) (ap run_named run_option)

reads_two : (a b : List ℕ) → Kind a → Kind b → once a + once b ≤ 1 → Reads (a ∷ b ∷ [])
reads_two a b (inl x) (inl y) l = ap run_named (run_two_files a b [] x y)
reads_two a b (inl x) (inr f) l = subst (λ w. Reads (a ∷ w ∷ [])) (sym f.0) (ap run_named (run_file_option a x))
reads_two a b (inr e) (inl y) l = subst (λ w. Reads (w ∷ b ∷ [])) (sym e.0) (ap run_named (run_option_number b y))
reads_two a b (inr e) (inr f) l = let p = one a e.1 in let q = one b f.1 in absurd (omega arith)

no_option : (a b c : List ℕ) → is_option a ≡ false → is_option b ≡ false → run_of (a ∷ b ∷ c ∷ []) ≡ None
no_option a b c p q = rw (p, q) refl

reads_three : (a b c : List ℕ) → Kind a → Kind b → Kind c → once a + once b + once c ≤ 1 → Reads (a ∷ b ∷ c ∷ [])
reads_three a b c (inl x) (inl y) z l = ap run_named (run_two_files a b (c ∷ []) x y) ∙ sym (no_option a b c x.no_option y.no_option)
reads_three a b c (inl x) (inr f) (inl z) l =
    subst (λ w. Reads (a ∷ w ∷ c ∷ [])) (sym f.0)
    (ap run_named (run_file_first a c x z) ∙ sym (ap (λ t. if t then run_by (workers_of dashed) c else run_by (workers_of c) a) x.no_option))
reads_three a b c (inl x) (inr f) (inr g) l = let p = one b f.1 in let q = one c g.1 in absurd (omega arith)
reads_three a b c (inr e) (inl y) (inl z) l = subst (λ w. Reads (w ∷ b ∷ c ∷ [])) (sym e.0) (ap run_named (run_file_last b c y z))
reads_three a b c (inr e) (inl y) (inr g) l = let p = one a e.1 in let q = one c g.1 in absurd (omega arith)
reads_three a b c (inr e) (inr f) z l = let p = one a e.1 in let q = one b f.1 in absurd (omega arith)

reads_more : (a b c d : List ℕ) (rest : Words) → Kind a → Kind b → Kind c → Kind d → once a + once b + once c + once d ≤ 1 → Reads (a ∷ b ∷ c ∷ d ∷ rest)
reads_more a b c d rest (inl x) (inl y) z u l = ap run_named (run_two_files a b (c ∷ d ∷ rest) x y)
reads_more a b c d rest (inl x) (inr f) (inl z) (inl u) l = subst (λ w. Reads (a ∷ w ∷ c ∷ d ∷ rest)) (sym f.0) (ap run_named (run_left_over_first a c d rest x z u))
reads_more a b c d rest (inl x) (inr f) (inl z) (inr h) l = let p = one b f.1 in let q = one d h.1 in absurd (omega arith)
reads_more a b c d rest (inl x) (inr f) (inr g) u l = let p = one b f.1 in let q = one c g.1 in absurd (omega arith)
reads_more a b c d rest (inr e) (inl y) (inl z) (inl u) l = subst (λ w. Reads (w ∷ b ∷ c ∷ d ∷ rest)) (sym e.0) (ap run_named (run_left_over_last b c d rest y z u))
reads_more a b c d rest (inr e) (inl y) (inl z) (inr h) l = let p = one a e.1 in let q = one d h.1 in absurd (omega arith)
reads_more a b c d rest (inr e) (inl y) (inr g) u l = let p = one a e.1 in let q = one c g.1 in absurd (omega arith)
reads_more a b c d rest (inr e) (inr f) z u l = let p = one a e.1 in let q = one b f.1 in absurd (omega arith)

pub run_read : (words : Words) → list_all is_known words ≡ true → count_by is_option words ≤ 1 → run_named (parts_of run_app words) ≡ run_of words
run_read [] k l = ap run_named run_nothing
run_read (a ∷ []) k l = reads_one a (view a (both _ _ k).0)
run_read (a ∷ b ∷ []) k l = let k2 = both _ _ (both (is_known a) _ k).1 in reads_two a b (view a (both _ _ k).0) (view b k2.0) (omega arith)
run_read (a ∷ b ∷ c ∷ []) k l =
    let k2 = both (is_known b) _ (both (is_known a) _ k).1 in
    reads_three a b c (view a (both _ _ k).0) (view b k2.0) (view c (both _ _ k2.1).0) (omega arith)
run_read (a ∷ b ∷ c ∷ d ∷ rest) k l =
    let k2 = both (is_known b) _ (both (is_known a) _ k).1 in
    let k3 = both (is_known c) _ k2.1 in
    let few = four_of a b c d rest in
    reads_more a b c d rest (view a (both _ _ k).0) (view b k2.0) (view c k3.0) (view d (both _ _ k3.1).0) (omega arith)

pub plain_read : (words : Words) → list_all is_known words ≡ true → plain_named (parts_of plain_app words) ≡ plain_of words
plain_read [] k = ap plain_named plain_nothing
plain_read (a ∷ []) k = go (view a (both _ _ k).0)
  where
    go : Kind a → plain_named (parts_of plain_app (a ∷ [])) ≡ plain_of (a ∷ [])
    go (inl x) = ap plain_named (plain_file a x)
    go (inr e) = subst (λ w. plain_named (parts_of plain_app (w ∷ [])) ≡ plain_of (w ∷ [])) (sym e.0) (ap plain_named (plain_option []))
plain_read (a ∷ b ∷ rest) k = go (view a (both _ _ k).0) (view b (both (is_known b) _ (both (is_known a) _ k).1).0)
  where
    go : Kind a → Kind b → plain_named (parts_of plain_app (a ∷ b ∷ rest)) ≡ None
    go (inl x) (inl y) = ap plain_named (plain_two_files a b rest x y)
    go (inl x) (inr f) = subst (λ w. plain_named (parts_of plain_app (a ∷ w ∷ rest)) ≡ None) (sym f.0) (ap plain_named (plain_file_option a rest x))
    go (inr e) y = subst (λ w. plain_named (parts_of plain_app (w ∷ b ∷ rest)) ≡ None) (sym e.0) (ap plain_named (plain_option (b ∷ rest)))

-- ---- what the program refuses itself

no_spelling : workers_of dashed ≡ None
unfolding digits
no_spelling = refl

option_spells_nothing : (w : List ℕ) → is_option w ≡ true → workers_of w ≡ None
option_spells_nothing w e = ap workers_of ((bytes_eq-Decides w dashed).0 e) ∙ no_spelling

option_no_operand : (w : List ℕ) → is_option w ≡ true → is_operand w ≡ false
option_no_operand w e = ap is_operand ((bytes_eq-Decides w dashed).0 e)

unnamed : (o : Option ℕ) (file : List ℕ) → is_operand file ≡ false → run_by o file ≡ None
unnamed None file e = refl
unnamed (Some n) file e = rw e refl

unspelled : (number file : List ℕ) → workers_of number ≡ None → run_by (workers_of number) file ≡ None
unspelled number file e = ap (λ o. run_by o file) e

unknown_operand : (w : List ℕ) → is_known w ≡ false → is_operand w ≡ false
unknown_operand w e = go (is_operand w) e
  where
    go : (b : Bool) → (b || is_option w) ≡ false → b ≡ false
    go true h = h
    go false h = refl

unknown_number : (w : List ℕ) → is_known w ≡ false → workers_of w ≡ None
unknown_number w e = go (workers_of w) refl
  where
    go : (o : Option ℕ) → workers_of w ≡ o → o ≡ None
    go None h = refl
    go (Some n) h = absurd (true≢false (sym (spelled_operand w (ap is_some h)) ∙ unknown_operand w e))

one_false : (a b : Bool) → (a && b) ≡ false → (a ≡ false) ⊎ (b ≡ false)
one_false true b e = inr e
one_false false b e = inl refl

known_option : (w : List ℕ) → is_option w ≡ true → is_known w ≡ false → ⊥
known_option w e h = go (is_operand w) (is_option w) e h
  where
    go : (a b : Bool) → b ≡ true → (a || b) ≡ false → ⊥
    go true b p q = true≢false q
    go false b p q = true≢false (sym p ∙ q)

unknown_pair : (number file : List ℕ) → (is_known number ≡ false) ⊎ (is_known file ≡ false) → None ≡ run_by (workers_of number) file
unknown_pair number file (inl e) = sym (unspelled number file (unknown_number number e))
unknown_pair number file (inr e) = sym (unnamed (workers_of number) file (unknown_operand file e))

refused_three : (a b c : List ℕ) (p q : Bool) → is_option a ≡ p → is_option b ≡ q → list_all is_known (a ∷ b ∷ c ∷ []) ≡ false
    → None ≡ (if p then run_by (workers_of b) c else (if q then run_by (workers_of c) a else None))
refused_three a b c true q e f k = elim (one_false (is_known a) _ k) [
  | inl h ↦ absurd (known_option a e h)
  | inr h ↦ elim (one_false (is_known b) _ h) [
    | inl i ↦ unknown_pair b c (inl i)
    | inr i ↦ elim (one_false (is_known c) true i) [
      | inl j ↦ unknown_pair b c (inr j)
      | inr j ↦ absurd (true≢false j)
    ]
  ]
]
refused_three a b c false true e f k = elim (one_false (is_known a) _ k) [
  | inl h ↦ unknown_pair c a (inr h)
  | inr h ↦ elim (one_false (is_known b) _ h) [
    | inl i ↦ absurd (known_option b f i)
    | inr i ↦ elim (one_false (is_known c) true i) [
      | inl j ↦ unknown_pair c a (inl j)
      | inr j ↦ absurd (true≢false j)
    ]
  ]
]
refused_three a b c false false e f k = refl

alone : (a : List ℕ) → list_all is_known (a ∷ []) ≡ false → is_operand a ≡ false
alone a k = elim (one_false (is_known a) true k) [
  | inl h ↦ unknown_operand a h
  | inr h ↦ absurd (true≢false h)
]

pub run_refused : (words : Words) → list_all is_known words ≡ false → None ≡ run_of words
run_refused [] k = absurd (true≢false k)
run_refused (a ∷ []) k = sym (unnamed (Some 4) a (alone a k))
run_refused (a ∷ b ∷ []) k = refl
run_refused (a ∷ b ∷ c ∷ []) k = refused_three a b c (is_option a) (is_option b) refl refl k
run_refused (a ∷ b ∷ c ∷ d ∷ rest) k = refl

pub plain_refused : (words : Words) → list_all is_known words ≡ false → None ≡ plain_of words
plain_refused [] k = refl
plain_refused (a ∷ []) k = sym (rw (alone a k) refl)
plain_refused (a ∷ b ∷ rest) k = refl

doubled_pair : (number file : List ℕ) → (is_option number ≡ true) ⊎ (is_option file ≡ true) → None ≡ run_by (workers_of number) file
doubled_pair number file (inl e) = sym (unspelled number file (option_spells_nothing number e))
doubled_pair number file (inr e) = sym (unnamed (workers_of number) file (option_no_operand file e))

counted : (b : Bool) → 0 < cond b 1 0 → b ≡ true
counted true l = refl
counted false l = absurd (omega arith)

either_counted : (p q : Bool) → 0 < cond p 1 0 + cond q 1 0 → (p ≡ true) ⊎ (q ≡ true)
either_counted true q l = inl refl
either_counted false q l = inr (counted q (omega arith))

doubled_three : (a b c : List ℕ) (p q : Bool) → is_option a ≡ p → is_option b ≡ q → 1 < cond p 1 0 + cond q 1 0 + once c
    → None ≡ (if p then run_by (workers_of b) c else (if q then run_by (workers_of c) a else None))
doubled_three a b c true q e f l = elim (either_counted q (is_option c) (omega arith)) [
  | inl h ↦ doubled_pair b c (inl (f ∙ h))
  | inr h ↦ doubled_pair b c (inr h)
]
doubled_three a b c false true e f l = doubled_pair c a (inl (counted (is_option c) (omega arith)))
doubled_three a b c false false e f l = refl

pub run_doubled : (words : Words) → 1 < count_by is_option words → None ≡ run_of words
run_doubled [] l = absurd (omega arith)
run_doubled (a ∷ []) l = let few = at_most (is_option a) in absurd (omega arith)
run_doubled (a ∷ b ∷ []) l = refl
run_doubled (a ∷ b ∷ c ∷ []) l = doubled_three a b c (is_option a) (is_option b) refl refl (omega arith)
run_doubled (a ∷ b ∷ c ∷ d ∷ rest) l = refl
