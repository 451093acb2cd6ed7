-- Laws of runs.
use Rattle.std.proofs.Common.{◌≡◌, ℕ, zero, suc, ◌⊎◌, inl, inr, ◌<◌, ◌≤◌, Bool, true, false, true≢false, List, [], ◌∷◌, length, Option, Some, None, refl, sym, ap, subst, ◌∙◌, arith}
use Rattle.std.specs.Prelude.{nat_le}
use Rattle.std.proofs.lemmas.Bool.{ne_eqb, le-leb, leb-true, cases_lt, false_from_ne_true}
use Rattle.io_edge.specs.Gained.{Gained, GainedFront}
use Rattle.io_edge.specs.Rose.{Rose}
use Rattle.table_core.specs.declared.task.TaskParts.{TaskParts}
use Rattle.query_core.specs.Answers.{RankedQuery, answers}
use Rattle.sql_print.specs.Text.{text, text_of}
use Rattle.task_read.specs.Told.{Told, untold, faulty, ready, WhenReady, WhenFaulty}
use Rattle.task_read.specs.Task.{Files, IsRead, task_told}
use Rattle.task_read.specs.declared.fault.TaskFault.{TaskFault}
use Rattle.command_line.specs.Command.{file_of}
use Rattle.command_line.specs.declared.request.Request.{Request}
use Rattle.command_line.specs.declared.request.Request.TheVariants.{Run, Plain}
use Rattle.top_call.specs.Need.{need, is_allowed}
use Rattle.top_call.specs.Size.{has_few_skeletons}
use Rattle.top_call.specs.Listing.{end_of, Prints, Overruns, Answers, Runs, RunsWords}
use Rattle.top_call.specs.Promise.{is_plain, asks_plainly, asked_file, IsReadIn_file, IfReady, IsRefused, IsUnwritten, RefusedAs, AnswersTask}
use Rattle.top_call.specs.declared.end.End.{End}
use Rattle.top_call.specs.declared.end.End.TheVariants.{Listed, Empty, Usage, BadTask, ReadFault, WriteFault, OutOfMemory, TooMany, OverBudget}
use Rattle.top_call.proofs.WriteLaws.{gained_front, unchanged_front}

-- what a sink holds, if it tells it, and what a folder counts
abbrev Held : Type 0
Held = Option (List ℕ)

abbrev Counts : Type 0
Counts = List ℕ → ℕ

-- the task that is told, or what is wrong with it
abbrev State : Type 0
State = Told TaskParts TaskFault

none_of : (list : List RankedQuery) → 0 ≡ length list → list ≡ []
none_of [] e = refl
none_of (x ∷ xs) e = absurd (omega (arith, e))

-- the end of a run that wrote the text of all answers
pub prints_all : (task : TaskParts) (old new : Held) (before now n : ℕ) (list : List RankedQuery) (bytes : List ℕ)
    → list ≡ answers task → n ≡ length list → bytes ≡ text_of task list → Gained old new bytes → Prints task old new before now (end_of n)
prints_all task old new before now zero list bytes all count printed gain = (sym all ∙ none_of list count, rw (← all) (rw printed at gain))
prints_all task old new before now (suc n) list bytes all count printed gain =
    let some = ne_eqb (suc n) 0 (λ e. absurd (omega (arith, e))) in
    rw some ((rw (← all) count, omega arith), rw (← all) (rw printed at gain))

-- a fact of the task, where one is told
if_ready : (s : State) (P Q : TaskParts → Type 0) → ((t : TaskParts) → P t → Q t) → WhenReady s P → IfReady s Q
if_ready untold P Q h p = tt
if_ready (faulty f) P Q h p = tt
if_ready (ready t) P Q h p = h t p

if_always : (s : State) (Q : TaskParts → Type 0) → ((t : TaskParts) → Q t) → IfReady s Q
if_always untold Q h = tt
if_always (faulty f) Q h = tt
if_always (ready t) Q h = h t

-- what is done with a task, by the number of its skeletons and its budget
answers_listed : (b r : Bool) (task : TaskParts) (old new : Held) (before now n : ℕ) → Answers b r task old new before now (Listed n)
    → ((b ≡ true) × (r ≡ true)) × (((n ≡ length (answers task)) × (0 < n)) × Gained old new (text task))
answers_listed true true task old new before now n a = ((refl, refl), a)
answers_listed true false task old new before now n a = absurd a
answers_listed false r task old new before now n a = absurd a

answers_empty : (b r : Bool) (task : TaskParts) (old new : Held) (before now : ℕ) → Answers b r task old new before now Empty → ((b ≡ true) × (r ≡ true)) × ((answers task ≡ []) × Gained old new (text task))
answers_empty true true task old new before now a = ((refl, refl), a)
answers_empty true false task old new before now a = absurd a
answers_empty false r task old new before now a = absurd a

answers_unwritten : (b r : Bool) (task : TaskParts) (old new : Held) (before now : ℕ) → Answers b r task old new before now WriteFault → ((b ≡ true) × (r ≡ true)) × (GainedFront old new (text task) × Rose before now)
answers_unwritten true true task old new before now a = ((refl, refl), a)
answers_unwritten true false task old new before now a = absurd a
answers_unwritten false r task old new before now a = absurd a

answers_over : (b plain : Bool) (task : TaskParts) (old new : Held) (before now : ℕ) → Answers b (is_allowed plain task) task old new before now OverBudget
    → ((plain ≡ false) × ((b ≡ true) × (is_allowed plain task ≡ false))) × (new ≡ old)
answers_over true true task old new before now a = absurd a
answers_over true false task old new before now a = of (is_allowed false task) refl a
  where
    of : (r : Bool) → is_allowed false task ≡ r → Answers true r task old new before now OverBudget → ((false ≡ false) × ((true ≡ true) × (is_allowed false task ≡ false))) × (new ≡ old)
    of true e over = absurd over
    of false e over = ((refl, (refl, e)), over)
answers_over false plain task old new before now a = absurd a

answers_many : (b r : Bool) (task : TaskParts) (old new : Held) (before now : ℕ) → Answers b r task old new before now TooMany → (b ≡ false) × (new ≡ old)
answers_many true true task old new before now a = absurd a
answers_many true false task old new before now a = absurd a
answers_many false r task old new before now a = (refl, a)

answers_memory : (b r : Bool) (task : TaskParts) (old new : Held) (before now : ℕ) → Answers b r task old new before now OutOfMemory → new ≡ old
answers_memory true true task old new before now a = a
answers_memory true false task old new before now a = a
answers_memory false r task old new before now a = a

answers_usage : (b r : Bool) (task : TaskParts) (old new : Held) (before now : ℕ) → Answers b r task old new before now Usage → ⊥
answers_usage true true task old new before now a = a
answers_usage true false task old new before now a = a
answers_usage false r task old new before now a = a

answers_bad : (b r : Bool) (task : TaskParts) (old new : Held) (before now : ℕ) (fault : TaskFault) → Answers b r task old new before now (BadTask fault) → ⊥
answers_bad true true task old new before now fault a = a
answers_bad true false task old new before now fault a = a
answers_bad false r task old new before now fault a = a

answers_unread : (b r : Bool) (task : TaskParts) (old new : Held) (before now : ℕ) (file : List ℕ) → Answers b r task old new before now (ReadFault file) → ⊥
answers_unread true true task old new before now file a = a
answers_unread true false task old new before now file a = a
answers_unread false r task old new before now file a = a

-- a fact of the task that was read, where that is the one that is told
when_told : (s : State) (task : TaskParts) (Q : TaskParts → Type 0) → WhenReady s (λ t. task ≡ t) → Q task → WhenReady s Q
when_told untold task Q is q = tt
when_told (faulty f) task Q is q = absurd is
when_told (ready t) task Q is q = subst Q is q

-- what is done with the task of a file is what a run of the file does
pub runs_ready : (told : Files) (unread unread_now : Counts) (plain : Bool) (file : List ℕ) (old new : Held) (before now : ℕ) (end : End) (task : TaskParts)
    → WhenReady (task_told told file) (λ t. task ≡ t) → Answers (has_few_skeletons task) (is_allowed plain task) task old new before now end → Runs told unread unread_now plain file old new before now end
runs_ready told unread unread_now plain file old new before now (Listed n) task is a =
    when_told (task_told told file) task (λ t. Answers (has_few_skeletons t) (is_allowed plain t) t old new before now (Listed n)) is a
runs_ready told unread unread_now plain file old new before now Empty task is a =
    when_told (task_told told file) task (λ t. Answers (has_few_skeletons t) (is_allowed plain t) t old new before now Empty) is a
runs_ready told unread unread_now plain file old new before now Usage task is a = absurd (answers_usage (has_few_skeletons task) (is_allowed plain task) task old new before now a)
runs_ready told unread unread_now plain file old new before now (BadTask fault) task is a = absurd (answers_bad (has_few_skeletons task) (is_allowed plain task) task old new before now fault a)
runs_ready told unread unread_now plain file old new before now (ReadFault name) task is a = absurd (answers_unread (has_few_skeletons task) (is_allowed plain task) task old new before now name a)
runs_ready told unread unread_now plain file old new before now WriteFault task is a =
    (when_told (task_told told file) task (λ t. Answers (has_few_skeletons t) (is_allowed plain t) t old new before now WriteFault) is a, (answers_unwritten (has_few_skeletons task) (is_allowed plain task) task old new before now a).1.1)
runs_ready told unread unread_now plain file old new before now OutOfMemory task is a = answers_memory (has_few_skeletons task) (is_allowed plain task) task old new before now a
runs_ready told unread unread_now plain file old new before now TooMany task is a =
    let h = answers_many (has_few_skeletons task) (is_allowed plain task) task old new before now a in
    (when_told (task_told told file) task (λ t. has_few_skeletons t ≡ false) is h.0, h.1)
runs_ready told unread unread_now plain file old new before now OverBudget task is a =
    let h = answers_over (has_few_skeletons task) plain task old new before now a in
    ((h.0.0, when_told (task_told told file) task (λ t. (has_few_skeletons t ≡ true) × (is_allowed plain t ≡ false)) is h.0.1), h.1)

-- a task whose budget allows a search is answered as one that is listed
pub allowed_as : (r : Bool) (task : TaskParts) (old new : Held) (before now : ℕ) (end : End) → r ≡ true → Prints task old new before now end → Answers true r task old new before now end
allowed_as true task old new before now end e printed = printed
allowed_as false task old new before now end e printed = absurd (true≢false (sym e))

pub overruns_as : (r : Bool) (task : TaskParts) (old new : Held) (before now : ℕ) (end : End) → r ≡ false → Overruns old new end → Answers true r task old new before now end
overruns_as true task old new before now end e over = absurd (true≢false e)
overruns_as false task old new before now end e over = over

-- whatever the end, a front of the task's text was written
front_file : (told : Files) (unread unread_now : Counts) (plain : Bool) (file : List ℕ) (old new : Held) (before now : ℕ) (end : End)
    → Runs told unread unread_now plain file old new before now end → IfReady (task_told told file) (λ task. GainedFront old new (text task))
front_file told unread unread_now plain file old new before now (Listed n) runs =
    if_ready (task_told told file) (λ t. Answers (has_few_skeletons t) (is_allowed plain t) t old new before now (Listed n)) (λ t. GainedFront old new (text t)) (λ t a. gained_front old new (text t) (answers_listed (has_few_skeletons t) (is_allowed plain t) t old new before now n a).1.1) runs
front_file told unread unread_now plain file old new before now Empty runs =
    if_ready (task_told told file) (λ t. Answers (has_few_skeletons t) (is_allowed plain t) t old new before now Empty) (λ t. GainedFront old new (text t)) (λ t a. gained_front old new (text t) (answers_empty (has_few_skeletons t) (is_allowed plain t) t old new before now a).1.1) runs
front_file told unread unread_now plain file old new before now Usage runs = absurd runs
front_file told unread unread_now plain file old new before now (BadTask f) runs = if_always (task_told told file) (λ t. GainedFront old new (text t)) (λ t. unchanged_front old new (text t) runs.1)
front_file told unread unread_now plain file old new before now (ReadFault name) runs = if_always (task_told told file) (λ t. GainedFront old new (text t)) (λ t. unchanged_front old new (text t) runs.1)
front_file told unread unread_now plain file old new before now WriteFault runs =
    if_ready (task_told told file) (λ t. Answers (has_few_skeletons t) (is_allowed plain t) t old new before now WriteFault) (λ t. GainedFront old new (text t)) (λ t a. (answers_unwritten (has_few_skeletons t) (is_allowed plain t) t old new before now a).1.0) runs.0
front_file told unread unread_now plain file old new before now OutOfMemory runs = if_always (task_told told file) (λ t. GainedFront old new (text t)) (λ t. unchanged_front old new (text t) runs)
front_file told unread unread_now plain file old new before now OverBudget runs = if_always (task_told told file) (λ t. GainedFront old new (text t)) (λ t. unchanged_front old new (text t) runs.1)
front_file told unread unread_now plain file old new before now TooMany runs = if_always (task_told told file) (λ t. GainedFront old new (text t)) (λ t. unchanged_front old new (text t) runs.1)

pub front_words : (told : Files) (unread unread_now : Counts) (request : Option Request) (old new : Held) (before now : ℕ) (end : End)
    → RunsWords told unread unread_now request old new before now end → IfReady (asked_file told request) (λ task. GainedFront old new (text task))
front_words told unread unread_now None old new before now end runs = tt
front_words told unread unread_now (Some request) old new before now end runs = front_file told unread unread_now (is_plain request) (file_of request) old new before now end runs

-- where memory ran out before the words were read, nothing was done
pub unread_words : (told : Files) (unread unread_now : Counts) (request : Option Request) (held : Held) (before now : ℕ) → RunsWords told unread unread_now request held held before now OutOfMemory
unread_words told unread unread_now None held before now = (inr refl, refl)
unread_words told unread unread_now (Some request) held before now = refl

-- where something is wrong, no task is told
if_faulty : (s : State) (P : TaskFault → Type 0) (Q : TaskParts → Type 0) → WhenFaulty s P → IfReady s Q
if_faulty untold P Q p = tt
if_faulty (faulty f) P Q p = tt
if_faulty (ready t) P Q p = absurd p

-- where no read and no write failed, a task of few enough skeletons that is allowed is answered, unless memory ran out
abbrev Answered : Bool → End → TaskParts → Type 0
Answered plain end task = has_few_skeletons task ≡ true → is_allowed plain task ≡ true → AnswersTask task end

answered_file : (told : Files) (unread unread_now : Counts) (plain : Bool) (file : List ℕ) (old new : Held) (before now : ℕ) (end : End)
    → Runs told unread unread_now plain file old new before now end → ((name : List ℕ) → IsRead told file name → ¬ (Rose (unread name) (unread_now name))) → ¬ (Rose before now)
    → IfReady (task_told told file) (Answered plain end)
answered_file told unread unread_now plain file old new before now (Listed n) runs read kept =
    if_ready (task_told told file) (λ t. Answers (has_few_skeletons t) (is_allowed plain t) t old new before now (Listed n)) (Answered plain (Listed n)) (λ t a few allowed. (answers_listed (has_few_skeletons t) (is_allowed plain t) t old new before now n a).1.0) runs
answered_file told unread unread_now plain file old new before now Empty runs read kept =
    if_ready (task_told told file) (λ t. Answers (has_few_skeletons t) (is_allowed plain t) t old new before now Empty) (Answered plain Empty) (λ t a few allowed. (answers_empty (has_few_skeletons t) (is_allowed plain t) t old new before now a).1.0) runs
answered_file told unread unread_now plain file old new before now Usage runs read kept = absurd runs
answered_file told unread unread_now plain file old new before now (BadTask f) runs read kept = if_faulty (task_told told file) (λ first. f ≡ first) (Answered plain (BadTask f)) runs.0
answered_file told unread unread_now plain file old new before now (ReadFault name) runs read kept = absurd (read name runs.0.0 runs.0.1)
answered_file told unread unread_now plain file old new before now WriteFault runs read kept = absurd (kept runs.1)
answered_file told unread unread_now plain file old new before now OutOfMemory runs read kept = if_always (task_told told file) (Answered plain OutOfMemory) (λ t few allowed. tt)
answered_file told unread unread_now plain file old new before now TooMany runs read kept =
    if_ready (task_told told file) (λ t. has_few_skeletons t ≡ false) (Answered plain TooMany) (λ t many few allowed. absurd (true≢false (sym few ∙ many))) runs.0
answered_file told unread unread_now plain file old new before now OverBudget runs read kept =
    if_ready (task_told told file) (λ t. (has_few_skeletons t ≡ true) × (is_allowed plain t ≡ false)) (Answered plain OverBudget) (λ t over few allowed. absurd (true≢false (sym allowed ∙ over.1))) runs.0.1

answered_words : (told : Files) (unread unread_now : Counts) (request : Option Request) (old new : Held) (before now : ℕ) (end : End)
    → RunsWords told unread unread_now request old new before now end → ((name : List ℕ) → IsReadIn_file told request name → ¬ (Rose (unread name) (unread_now name))) → ¬ (Rose before now)
    → IfReady (asked_file told request) (Answered (asks_plainly request) end)
answered_words told unread unread_now None old new before now end runs read kept = tt
answered_words told unread unread_now (Some request) old new before now end runs read kept = answered_file told unread unread_now (is_plain request) (file_of request) old new before now end runs read kept

-- a fact of the task, by another
ready_more : (s : State) (P Q : TaskParts → Type 0) → ((t : TaskParts) → P t → Q t) → IfReady s P → IfReady s Q
ready_more untold P Q h p = tt
ready_more (faulty f) P Q h p = tt
ready_more (ready t) P Q h p = h t p

-- a budget that is no less than the need allows a search, and one that is less doesn't
allowed_by : (plain : Bool) (task : TaskParts) → need task ≤ task.budget → is_allowed plain task ≡ true
allowed_by true task within = refl
allowed_by false task within = le-leb (need task) task.budget within

pub not_allowed : (task : TaskParts) → task.budget < need task → is_allowed false task ≡ false
not_allowed task over = false_from_ne_true (nat_le (need task) task.budget) (λ e. let within = leb-true (need task) task.budget e in omega (arith, within, over))

pub within_words : (told : Files) (unread unread_now : Counts) (request : Option Request) (old new : Held) (before now : ℕ) (end : End)
    → RunsWords told unread unread_now request old new before now end → ((name : List ℕ) → IsReadIn_file told request name → ¬ (Rose (unread name) (unread_now name))) → ¬ (Rose before now)
    → IfReady (asked_file told request) (λ task. has_few_skeletons task ≡ true → need task ≤ task.budget → AnswersTask task end)
within_words told unread unread_now request old new before now end runs read kept =
    ready_more (asked_file told request) (Answered (asks_plainly request) end) (λ t. has_few_skeletons t ≡ true → need t ≤ t.budget → AnswersTask t end)
    (λ t answered few within. answered few (allowed_by (asks_plainly request) t within)) (answered_words told unread unread_now request old new before now end runs read kept)

-- a plain listing answers whatever the budget
pub plain_words : (told : Files) (unread unread_now : Counts) (request : Option Request) (old new : Held) (before now : ℕ) (end : End) (file : List ℕ)
    → RunsWords told unread unread_now request old new before now end → request ≡ Some (Plain file)
    → ((name : List ℕ) → IsReadIn_file told request name → ¬ (Rose (unread name) (unread_now name))) → ¬ (Rose before now)
    → IfReady (task_told told file) (λ task. has_few_skeletons task ≡ true → AnswersTask task end)
plain_words told unread unread_now request old new before now end file runs e read kept =
    ready_more (task_told told file) (Answered true end) (λ t. has_few_skeletons t ≡ true → AnswersTask t end) (λ t answered few. answered few refl)
    (subst (λ r. IfReady (asked_file told r) (Answered (asks_plainly r) end)) e (answered_words told unread unread_now request old new before now end runs read kept))

when_more : (s : State) (P Q : TaskParts → Type 0) → ((t : TaskParts) → P t → Q t) → WhenReady s P → WhenReady s Q
when_more untold P Q h p = p
when_more (faulty f) P Q h p = p
when_more (ready t) P Q h p = h t p

-- where a search isn't allowed, the need is more than the budget
over_by : (plain : Bool) (task : TaskParts) → is_allowed plain task ≡ false → task.budget < need task
over_by true task e = absurd (true≢false e)
over_by false task e = elim (cases_lt task.budget (need task)) [
  | inl less ↦ less
  | inr most ↦ absurd (true≢false (sym (le-leb (need task) task.budget most) ∙ e))
]

-- a run is over its budget only where it searches and the need is more
over_file : (told : Files) (unread unread_now : Counts) (plain : Bool) (file : List ℕ) (old new : Held) (before now : ℕ) (end : End)
    → Runs told unread unread_now plain file old new before now end → end ≡ OverBudget → (plain ≡ false) × WhenReady (task_told told file) (λ task. (has_few_skeletons task ≡ true) × (task.budget < need task))
over_file told unread unread_now plain file old new before now end runs e =
    let over : Runs told unread unread_now plain file old new before now OverBudget = subst (Runs told unread unread_now plain file old new before now) e runs in
    (over.0.0, when_more (task_told told file) (λ t. (has_few_skeletons t ≡ true) × (is_allowed plain t ≡ false)) (λ t. (has_few_skeletons t ≡ true) × (t.budget < need t)) (λ t h. (h.0, over_by plain t h.1)) over.0.1)

pub over_words : (told : Files) (unread unread_now : Counts) (request : Option Request) (old new : Held) (before now : ℕ) (end : End)
    → RunsWords told unread unread_now request old new before now end → end ≡ OverBudget → (asks_plainly request ≡ false) × WhenReady (asked_file told request) (λ task. (has_few_skeletons task ≡ true) × (task.budget < need task))
over_words told unread unread_now None old new before now end runs e = (refl, tt)
over_words told unread unread_now (Some request) old new before now end runs e = over_file told unread unread_now (is_plain request) (file_of request) old new before now end runs e

pub plain_never : (told : Files) (unread unread_now : Counts) (request : Option Request) (old new : Held) (before now : ℕ) (end : End) (file : List ℕ)
    → RunsWords told unread unread_now request old new before now end → request ≡ Some (Plain file) → end ≡ OverBudget → ⊥
plain_never told unread unread_now request old new before now end file runs is e =
    true≢false (sym (ap asks_plainly is) ∙ (over_words told unread unread_now request old new before now end runs e).0)

-- a run that wrote, or couldn't, was allowed to
pub unwritten_allowed : (told : Files) (unread unread_now : Counts) (request : Option Request) (old new : Held) (before now : ℕ) (end : End)
    → RunsWords told unread unread_now request old new before now end → end ≡ WriteFault → WhenReady (asked_file told request) (λ task. (has_few_skeletons task ≡ true) × (is_allowed (asks_plainly request) task ≡ true))
unwritten_allowed told unread unread_now None old new before now end runs e = tt
unwritten_allowed told unread unread_now (Some request) old new before now end runs e =
    let plain = is_plain request in
    let failed : Runs told unread unread_now plain (file_of request) old new before now WriteFault = subst (Runs told unread unread_now plain (file_of request) old new before now) e runs in
    when_more (task_told told (file_of request)) (λ t. Answers (has_few_skeletons t) (is_allowed plain t) t old new before now WriteFault) (λ t. (has_few_skeletons t ≡ true) × (is_allowed plain t ≡ true))
    (λ t a. (answers_unwritten (has_few_skeletons t) (is_allowed plain t) t old new before now a).0) failed.0

-- where no read failed, a search that needs more than the budget ends so, unless memory ran out
abbrev Overrun : End → TaskParts → Type 0
Overrun end task = has_few_skeletons task ≡ true → task.budget < need task → (end ≡ OverBudget) ⊎ (end ≡ OutOfMemory)

listed_not : (task : TaskParts) (end : End) → is_allowed false task ≡ true → Overrun end task
listed_not task end allowed few over = absurd (true≢false (sym allowed ∙ not_allowed task over))

overrun_file : (told : Files) (unread unread_now : Counts) (file : List ℕ) (old new : Held) (before now : ℕ) (end : End)
    → Runs told unread unread_now false file old new before now end → ((name : List ℕ) → IsRead told file name → ¬ (Rose (unread name) (unread_now name))) → IfReady (task_told told file) (Overrun end)
overrun_file told unread unread_now file old new before now (Listed n) runs read =
    if_ready (task_told told file) (λ t. Answers (has_few_skeletons t) (is_allowed false t) t old new before now (Listed n)) (Overrun (Listed n)) (λ t a. listed_not t (Listed n) (answers_listed (has_few_skeletons t) (is_allowed false t) t old new before now n a).0.1) runs
overrun_file told unread unread_now file old new before now Empty runs read =
    if_ready (task_told told file) (λ t. Answers (has_few_skeletons t) (is_allowed false t) t old new before now Empty) (Overrun Empty) (λ t a. listed_not t Empty (answers_empty (has_few_skeletons t) (is_allowed false t) t old new before now a).0.1) runs
overrun_file told unread unread_now file old new before now Usage runs read = absurd runs
overrun_file told unread unread_now file old new before now (BadTask f) runs read = if_faulty (task_told told file) (λ first. f ≡ first) (Overrun (BadTask f)) runs.0
overrun_file told unread unread_now file old new before now (ReadFault name) runs read = absurd (read name runs.0.0 runs.0.1)
overrun_file told unread unread_now file old new before now WriteFault runs read =
    if_ready (task_told told file) (λ t. Answers (has_few_skeletons t) (is_allowed false t) t old new before now WriteFault) (Overrun WriteFault) (λ t a. listed_not t WriteFault (answers_unwritten (has_few_skeletons t) (is_allowed false t) t old new before now a).0.1) runs.0
overrun_file told unread unread_now file old new before now OutOfMemory runs read = if_always (task_told told file) (Overrun OutOfMemory) (λ t few over. inr refl)
overrun_file told unread unread_now file old new before now TooMany runs read =
    if_ready (task_told told file) (λ t. has_few_skeletons t ≡ false) (Overrun TooMany) (λ t many few over. absurd (true≢false (sym few ∙ many))) runs.0
overrun_file told unread unread_now file old new before now OverBudget runs read = if_always (task_told told file) (Overrun OverBudget) (λ t few over. inl refl)

pub overrun_words : (told : Files) (unread unread_now : Counts) (request : Option Request) (old new : Held) (before now : ℕ) (end : End) (file : List ℕ) (workers : ℕ)
    → RunsWords told unread unread_now request old new before now end → request ≡ Some (Run file workers) → ((name : List ℕ) → IsReadIn_file told request name → ¬ (Rose (unread name) (unread_now name)))
    → IfReady (task_told told file) (Overrun end)
overrun_words told unread unread_now request old new before now end file workers runs is read =
    overrun_file told unread unread_now file old new before now end (subst (λ r. RunsWords told unread unread_now r old new before now end) is runs)
    (subst (λ r. (name : List ℕ) → IsReadIn_file told r name → ¬ (Rose (unread name) (unread_now name))) is read)

-- a task of few enough skeletons isn't refused
few_unrefused : (s : State) (end : End) (P : TaskParts → Type 0) → ((t : TaskParts) → P t → has_few_skeletons t ≡ true) → WhenReady s P → RefusedAs s end
few_unrefused untold end P few p = tt
few_unrefused (faulty f) end P few p = absurd p
few_unrefused (ready t) end P few p = λ many. absurd (true≢false (sym (few t p) ∙ many))

few_kept : (s : State) (P : TaskParts → Type 0) → ((t : TaskParts) → P t → has_few_skeletons t ≡ true) → WhenReady s P → IsRefused s → ⊥
few_kept untold P few p refused = refused
few_kept (faulty f) P few p refused = p
few_kept (ready t) P few p refused = true≢false (sym (few t p) ∙ refused)

first_refused : (s : State) (fault : TaskFault) → WhenFaulty s (λ first. fault ≡ first) → RefusedAs s (BadTask fault)
first_refused untold fault p = tt
first_refused (faulty f) fault p = inl (ap BadTask p)
first_refused (ready t) fault p = absurd p

memory_refused : (s : State) → RefusedAs s OutOfMemory
memory_refused untold = tt
memory_refused (faulty f) = inr refl
memory_refused (ready t) = λ many. inr refl

many_refused : (s : State) → WhenReady s (λ t. has_few_skeletons t ≡ false) → RefusedAs s TooMany
many_refused untold p = tt
many_refused (faulty f) p = absurd p
many_refused (ready t) p = λ many. inl refl

-- where no read failed, what isn't a task of few enough skeletons is refused, unless memory ran out
refused_file : (told : Files) (unread unread_now : Counts) (plain : Bool) (file : List ℕ) (old new : Held) (before now : ℕ) (end : End)
    → Runs told unread unread_now plain file old new before now end → ((name : List ℕ) → IsRead told file name → ¬ (Rose (unread name) (unread_now name))) → RefusedAs (task_told told file) end
refused_file told unread unread_now plain file old new before now (Listed n) runs read =
    few_unrefused (task_told told file) (Listed n) (λ t. Answers (has_few_skeletons t) (is_allowed plain t) t old new before now (Listed n)) (λ t a. (answers_listed (has_few_skeletons t) (is_allowed plain t) t old new before now n a).0.0) runs
refused_file told unread unread_now plain file old new before now Empty runs read =
    few_unrefused (task_told told file) Empty (λ t. Answers (has_few_skeletons t) (is_allowed plain t) t old new before now Empty) (λ t a. (answers_empty (has_few_skeletons t) (is_allowed plain t) t old new before now a).0.0) runs
refused_file told unread unread_now plain file old new before now Usage runs read = absurd runs
refused_file told unread unread_now plain file old new before now (BadTask f) runs read = first_refused (task_told told file) f runs.0
refused_file told unread unread_now plain file old new before now (ReadFault name) runs read = absurd (read name runs.0.0 runs.0.1)
refused_file told unread unread_now plain file old new before now WriteFault runs read =
    few_unrefused (task_told told file) WriteFault (λ t. Answers (has_few_skeletons t) (is_allowed plain t) t old new before now WriteFault) (λ t a. (answers_unwritten (has_few_skeletons t) (is_allowed plain t) t old new before now a).0.0) runs.0
refused_file told unread unread_now plain file old new before now OutOfMemory runs read = memory_refused (task_told told file)
refused_file told unread unread_now plain file old new before now OverBudget runs read =
    few_unrefused (task_told told file) OverBudget (λ t. (has_few_skeletons t ≡ true) × (is_allowed plain t ≡ false)) (λ t over. over.0) runs.0.1
refused_file told unread unread_now plain file old new before now TooMany runs read = many_refused (task_told told file) runs.0

pub refused_words : (told : Files) (unread unread_now : Counts) (request : Option Request) (old new : Held) (before now : ℕ) (end : End)
    → RunsWords told unread unread_now request old new before now end → ((name : List ℕ) → IsReadIn_file told request name → ¬ (Rose (unread name) (unread_now name))) → RefusedAs (asked_file told request) end
refused_words told unread unread_now None old new before now end runs read = tt
refused_words told unread unread_now (Some request) old new before now end runs read = refused_file told unread unread_now (is_plain request) (file_of request) old new before now end runs read

-- nothing is written for what is refused
kept_file : (told : Files) (unread unread_now : Counts) (plain : Bool) (file : List ℕ) (old new : Held) (before now : ℕ) (end : End)
    → Runs told unread unread_now plain file old new before now end → IsRefused (task_told told file) → new ≡ old
kept_file told unread unread_now plain file old new before now (Listed n) runs refused =
    absurd (few_kept (task_told told file) (λ t. Answers (has_few_skeletons t) (is_allowed plain t) t old new before now (Listed n)) (λ t a. (answers_listed (has_few_skeletons t) (is_allowed plain t) t old new before now n a).0.0) runs refused)
kept_file told unread unread_now plain file old new before now Empty runs refused =
    absurd (few_kept (task_told told file) (λ t. Answers (has_few_skeletons t) (is_allowed plain t) t old new before now Empty) (λ t a. (answers_empty (has_few_skeletons t) (is_allowed plain t) t old new before now a).0.0) runs refused)
kept_file told unread unread_now plain file old new before now Usage runs refused = absurd runs
kept_file told unread unread_now plain file old new before now (BadTask f) runs refused = runs.1
kept_file told unread unread_now plain file old new before now (ReadFault name) runs refused = runs.1
kept_file told unread unread_now plain file old new before now WriteFault runs refused =
    absurd (few_kept (task_told told file) (λ t. Answers (has_few_skeletons t) (is_allowed plain t) t old new before now WriteFault) (λ t a. (answers_unwritten (has_few_skeletons t) (is_allowed plain t) t old new before now a).0.0) runs.0 refused)
kept_file told unread unread_now plain file old new before now OutOfMemory runs refused = runs
kept_file told unread unread_now plain file old new before now OverBudget runs refused = runs.1
kept_file told unread unread_now plain file old new before now TooMany runs refused = runs.1

pub kept_words : (told : Files) (unread unread_now : Counts) (request : Option Request) (old new : Held) (before now : ℕ) (end : End)
    → RunsWords told unread unread_now request old new before now end → IsRefused (asked_file told request) → new ≡ old
kept_words told unread unread_now None old new before now end runs refused = runs.1
kept_words told unread unread_now (Some request) old new before now end runs refused = kept_file told unread unread_now (is_plain request) (file_of request) old new before now end runs refused

-- nothing is written at the ends that write nothing
unwritten_file : (told : Files) (unread unread_now : Counts) (plain : Bool) (file : List ℕ) (old new : Held) (before now : ℕ) (end : End)
    → Runs told unread unread_now plain file old new before now end → IsUnwritten end → new ≡ old
unwritten_file told unread unread_now plain file old new before now (Listed n) runs unwritten = absurd unwritten
unwritten_file told unread unread_now plain file old new before now Empty runs unwritten = absurd unwritten
unwritten_file told unread unread_now plain file old new before now Usage runs unwritten = absurd runs
unwritten_file told unread unread_now plain file old new before now (BadTask f) runs unwritten = runs.1
unwritten_file told unread unread_now plain file old new before now (ReadFault name) runs unwritten = runs.1
unwritten_file told unread unread_now plain file old new before now WriteFault runs unwritten = absurd unwritten
unwritten_file told unread unread_now plain file old new before now OutOfMemory runs unwritten = absurd unwritten
unwritten_file told unread unread_now plain file old new before now TooMany runs unwritten = runs.1
unwritten_file told unread unread_now plain file old new before now OverBudget runs unwritten = runs.1

pub unwritten_words : (told : Files) (unread unread_now : Counts) (request : Option Request) (old new : Held) (before now : ℕ) (end : End)
    → RunsWords told unread unread_now request old new before now end → IsUnwritten end → new ≡ old
unwritten_words told unread unread_now None old new before now end runs unwritten = runs.1
unwritten_words told unread unread_now (Some request) old new before now end runs unwritten = unwritten_file told unread unread_now (is_plain request) (file_of request) old new before now end runs unwritten
