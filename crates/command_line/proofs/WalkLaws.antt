-- What clap makes of words of which none begins with `-`, but for the option.
use Rattle.std.proofs.Common.{◌≡◌, ℕ, false, List, [], ◌∷◌, Option, Some, None, refl, ap, ap₂, ◌∙◌, codes}
use Rattle.std.specs.Prelude.{is_some, option_and_then, if◌then◌else◌}
use Rattle.std.specs.Option.{option_map_or}
use Rattle.std.specs.Str.{bytes_eq}
use Rattle.clap.specs.Kinds.{Kinds, or_else}
use Rattle.clap.specs.Lexer.{long_of, long_of_rest, short_of, short_of_rest, strip_byte}
use Rattle.clap.specs.Walk.{Held, Rule, Step, Text, Waiting, Walk, after_step, finished, idle, is_empty, long_or_other, nothing_held, option, plain_word, positional, settled, short_or_plain, subcommand_or_other, trailing, walk, walk_from, walked, word_met}
use Rattle.clap.specs.Faults.{bundle_fault, check_fault, defaults_fault, entered_fault, flag_word_fault, other_fault, settle_fault, step_fault, turn_fault, walk_fault, word_fault}
use Rattle.clap.specs.Simple.{App, Shape, argument_words, built, entered, names_of}
use Rattle.clap.proofs.OnLiterals.{clap_on_literals}
use Rattle.command_line.specs.Word.{is_option}
use Rattle.command_line.specs.Reading.{Named, run_app, plain_app, parts_in, parts_of}

-- a word that begins with no `-`
pub record IsBare (w : Text) : Type 0 where
  pub no_dash : strip_byte 45 w ≡ None
  pub no_end : bytes_eq w (45 ∷ 45 ∷ []) ≡ false
  pub no_option : is_option w ≡ false

-- where a walk stands that stopped at nothing
abbrev pub at : Held → Waiting → ℕ → Walk
at h waiting position = record { held = h; waiting = waiting; position = position; is_trailing = false; stopped = None }

no_long : (w : Text) → IsBare w → long_of w ≡ None
no_long w b = ap (λ o. option_and_then long_of_rest (option_and_then (strip_byte 45) o)) b.no_dash

no_short : (w : Text) → IsBare w → short_of w ≡ None
no_short w b = ap (option_and_then short_of_rest) b.no_dash

other_bare : (c : List Rule) (h : Held) (waiting : Waiting) (position : ℕ) (w : Text) → IsBare w → subcommand_or_other c None waiting position w h ≡ plain_word c waiting w h
other_bare c h waiting position w b =
    ap (λ e. if e then (h, trailing position) else long_or_other c waiting w (long_of w) h) b.no_end
    ∙ (ap (λ o. long_or_other c waiting w o h) (no_long w b) ∙ ap (λ o. short_or_plain c waiting w o h) (no_short w b))

met_bare : (c : List Rule) (h : Held) (waiting : Waiting) (position : ℕ) (w : Text) → IsBare w → word_met c [] false waiting position w h ≡ plain_word c waiting w h
met_bare c h idle position w b = other_bare c h idle position w b
met_bare c h (option id) position w b = other_bare c h (option id) position w b
met_bare c h positional position w b = other_bare c h positional position w b

other_fault_bare : (s : Shape) (h : Held) (w : Text) → IsBare w → other_fault s None w h ≡ []
other_fault_bare s h w b =
    ap (λ e. if e then [] else flag_word_fault s.rules s.args_override_self (long_of w) w h) b.no_end
    ∙ (ap (λ o. flag_word_fault s.rules s.args_override_self o w h) (no_long w b)
    ∙ ap (λ o. option_map_or (λ flags. bundle_fault s.rules s.args_override_self flags h) o []) (no_short w b))

fault_bare : (s : Shape) (h : Held) (waiting : Waiting) (w : Text) → IsBare w → word_fault s [] false waiting w h ≡ []
fault_bare s h idle w b = other_fault_bare s h w b
fault_bare s h (option id) w b = other_fault_bare s h w b
fault_bare s h positional w b = other_fault_bare s h w b

-- the walk after such a word, and what is wrong with the step
abbrev pub bare_after : List Rule → Held → Waiting → ℕ → Text → Walk
bare_after c h waiting position w = after_step c w (at h waiting position) (plain_word c waiting w h).0 (plain_word c waiting w h).1

pub walked_bare : (c : List Rule) (h : Held) (waiting : Waiting) (position : ℕ) (w : Text) → IsBare w → walked c [] (at h waiting position) w ≡ bare_after c h waiting position w
unfolding walked
walked_bare c h waiting position w b = ap (λ (m : Held × Step). after_step c w (at h waiting position) m.0 m.1) (met_bare c h waiting position w b)

turn_bare : (s : Shape) (h : Held) (waiting : Waiting) (position : ℕ) (w : Text) → IsBare w
    → turn_fault s [] (at h waiting position) w ≡ step_fault s position (plain_word s.rules waiting w h).0 (plain_word s.rules waiting w h).1
turn_bare s h waiting position w b = ap₂ or_else (fault_bare s h waiting w b) (ap (λ (m : Held × Step). step_fault s position m.0 m.1) (met_bare s.rules h waiting position w b))

pub faults_bare : (s : Shape) (h : Held) (waiting : Waiting) (position : ℕ) (w : Text) (rest : List Text) → IsBare w
    → walk_fault s [] (at h waiting position) (w ∷ rest)
    ≡ or_else (step_fault s position (plain_word s.rules waiting w h).0 (plain_word s.rules waiting w h).1) (walk_fault s [] (bare_after s.rules h waiting position w) rest)
unfolding walk_fault
faults_bare s h waiting position w rest b = ap₂ or_else (turn_bare s h waiting position w b) (ap (λ x. walk_fault s [] x rest) (walked_bare s.rules h waiting position w b))

-- the same from a walk
pub faults_from : (s : Shape) (x : Walk) (w : Text) (rest : List Text) → IsBare w
    → walk_fault s [] (at x.held x.waiting x.position) (w ∷ rest)
    ≡ or_else (step_fault s x.position (plain_word s.rules x.waiting w x.held).0 (plain_word s.rules x.waiting w x.held).1) (walk_fault s [] (bare_after s.rules x.held x.waiting x.position w) rest)
faults_from s x = faults_bare s x.held x.waiting x.position

pub walked_from_bare : (c : List Rule) (x : Walk) (w : Text) → IsBare w → walked c [] (at x.held x.waiting x.position) w ≡ bare_after c x.held x.waiting x.position w
walked_from_bare c x = walked_bare c x.held x.waiting x.position

-- what a built command finds, by what is wrong with the walk and where it ends
abbrev found_by : App → Kinds → Walk → Option Named
found_by a wrong end =
    option_and_then parts_in (if is_empty (or_else wrong (or_else (entered_fault a end.stopped) (or_else (settle_fault a.top.rules a.top.args_override_self end.held)
    (or_else (defaults_fault (settled a.top.rules end.held).rows a.top.rules) (check_fault a.top (finished a.top.rules end.held) (is_some (entered a end.stopped)))))))
    then Some (finished a.top.rules end.held) else None)

found : (a : App) (words : List Text) (wrong : Kinds) (end : Walk) → walk_fault (built a).top (names_of (built a)) (walk_from nothing_held) (argument_words a words) ≡ wrong
    → walk (built a).top.rules (names_of (built a)) nothing_held (argument_words a words) ≡ end → parts_of a words ≡ found_by (built a) wrong end
found a words wrong end = ap₂ (found_by (built a))

-- ---- the walks of `run` and `plain`
abbrev runs : Shape
runs = (built run_app).top

abbrev plains : Shape
plains = (built plain_app).top

abbrev start : Walk
start = walk_from nothing_held

abbrev pub dashed : Text
dashed = codes "--workers"

-- after a file
abbrev filed : Shape → Text → Walk
filed s a = bare_after s.rules start.held start.waiting start.position a

-- after the option
abbrev opened : Walk → Walk
opened x = walked runs.rules [] x dashed

-- after a number that follows the option
abbrev numbered : Walk → Text → Walk
numbered x n = bare_after runs.rules (opened x).held (opened x).waiting (opened x).position n

pub run_nothing : parts_of run_app [] ≡ None
unfolding clap_on_literals
run_nothing = refl

pub run_file : (a : Text) → IsBare a → parts_of run_app (a ∷ []) ≡ Some (a, None)
unfolding clap_on_literals
run_file a b = found run_app (a ∷ []) [] (filed runs a) (faults_from runs start a [] b) (walked_from_bare runs.rules start a b)

pub run_option : parts_of run_app (dashed ∷ []) ≡ None
unfolding clap_on_literals
run_option = refl

pub run_two_files : (a b : Text) (rest : List Text) → IsBare a → IsBare b → parts_of run_app (a ∷ b ∷ rest) ≡ None
unfolding clap_on_literals
run_two_files a b rest x y =
    found run_app (a ∷ b ∷ rest) _ (walk runs.rules [] nothing_held (a ∷ b ∷ rest))
    (faults_from runs start a (b ∷ rest) x ∙ faults_from runs (filed runs a) b rest y) refl

pub run_file_option : (a : Text) → IsBare a → parts_of run_app (a ∷ dashed ∷ []) ≡ None
unfolding clap_on_literals
run_file_option a x =
    found run_app (a ∷ dashed ∷ []) [] (opened (filed runs a)) (faults_from runs start a (dashed ∷ []) x)
    (ap (λ w. walked runs.rules [] w dashed) (walked_from_bare runs.rules start a x))

pub run_option_number : (n : Text) → IsBare n → parts_of run_app (dashed ∷ n ∷ []) ≡ None
unfolding clap_on_literals
run_option_number n y =
    found run_app (dashed ∷ n ∷ []) [] (numbered start n) (faults_from runs (opened start) n [] y) (walked_from_bare runs.rules (opened start) n y)

pub run_file_last : (n a : Text) → IsBare n → IsBare a → parts_of run_app (dashed ∷ n ∷ a ∷ []) ≡ Some (a, Some n)
unfolding clap_on_literals
run_file_last n a y x =
    found run_app (dashed ∷ n ∷ a ∷ []) [] (bare_after runs.rules (numbered start n).held (numbered start n).waiting (numbered start n).position a)
    (faults_from runs (opened start) n (a ∷ []) y ∙ faults_from runs (numbered start n) a [] x)
    (ap (λ w. walked runs.rules [] w a) (walked_from_bare runs.rules (opened start) n y) ∙ walked_from_bare runs.rules (numbered start n) a x)

pub run_file_first : (a n : Text) → IsBare a → IsBare n → parts_of run_app (a ∷ dashed ∷ n ∷ []) ≡ Some (a, Some n)
unfolding clap_on_literals
run_file_first a n x y =
    found run_app (a ∷ dashed ∷ n ∷ []) [] (numbered (filed runs a) n)
    (faults_from runs start a (dashed ∷ n ∷ []) x ∙ faults_from runs (opened (filed runs a)) n [] y)
    (ap (λ w. walked runs.rules [] (walked runs.rules [] w dashed) n) (walked_from_bare runs.rules start a x) ∙ walked_from_bare runs.rules (opened (filed runs a)) n y)

pub run_left_over_last : (n a b : Text) (rest : List Text) → IsBare n → IsBare a → IsBare b → parts_of run_app (dashed ∷ n ∷ a ∷ b ∷ rest) ≡ None
unfolding clap_on_literals
run_left_over_last n a b rest y x z =
    found run_app (dashed ∷ n ∷ a ∷ b ∷ rest) _ (walk runs.rules [] nothing_held (dashed ∷ n ∷ a ∷ b ∷ rest))
    (faults_from runs (opened start) n (a ∷ b ∷ rest) y
    ∙ (faults_from runs (numbered start n) a (b ∷ rest) x
    ∙ faults_from runs (bare_after runs.rules (numbered start n).held (numbered start n).waiting (numbered start n).position a) b rest z)) refl

pub run_left_over_first : (a n b : Text) (rest : List Text) → IsBare a → IsBare n → IsBare b → parts_of run_app (a ∷ dashed ∷ n ∷ b ∷ rest) ≡ None
unfolding clap_on_literals
run_left_over_first a n b rest x y z =
    found run_app (a ∷ dashed ∷ n ∷ b ∷ rest) _ (walk runs.rules [] nothing_held (a ∷ dashed ∷ n ∷ b ∷ rest))
    (faults_from runs start a (dashed ∷ n ∷ b ∷ rest) x
    ∙ (faults_from runs (opened (filed runs a)) n (b ∷ rest) y ∙ faults_from runs (numbered (filed runs a) n) b rest z)) refl

pub plain_nothing : parts_of plain_app [] ≡ None
unfolding clap_on_literals
plain_nothing = refl

pub plain_file : (a : Text) → IsBare a → parts_of plain_app (a ∷ []) ≡ Some (a, None)
unfolding clap_on_literals
plain_file a b = found plain_app (a ∷ []) [] (filed plains a) (faults_from plains start a [] b) (walked_from_bare plains.rules start a b)

pub plain_two_files : (a b : Text) (rest : List Text) → IsBare a → IsBare b → parts_of plain_app (a ∷ b ∷ rest) ≡ None
unfolding clap_on_literals
plain_two_files a b rest x y =
    found plain_app (a ∷ b ∷ rest) _ (walk plains.rules [] nothing_held (a ∷ b ∷ rest))
    (faults_from plains start a (b ∷ rest) x ∙ faults_from plains (filed plains a) b rest y) refl

pub plain_file_option : (a : Text) (rest : List Text) → IsBare a → parts_of plain_app (a ∷ dashed ∷ rest) ≡ None
unfolding clap_on_literals
plain_file_option a rest x =
    found plain_app (a ∷ dashed ∷ rest) _ (walk plains.rules [] nothing_held (a ∷ dashed ∷ rest)) (faults_from plains start a (dashed ∷ rest) x) refl

pub plain_option : (rest : List Text) → parts_of plain_app (dashed ∷ rest) ≡ None
unfolding clap_on_literals
plain_option rest = found plain_app (dashed ∷ rest) _ (walk plains.rules [] nothing_held (dashed ∷ rest)) refl refl
