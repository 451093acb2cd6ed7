-- What a run does that has its task.
use Rattle.std.specs.Prelude.{◌≡◌, ◌⊎◌, ℕ, ◌<◌, ◌==◌, Bool, true, false, List, [], length, Option, Some, None, if◌then◌else◌}
use Rattle.io_edge.specs.Rose.{Rose}
use Rattle.io_edge.specs.Gained.{Gained, GainedFront}
use Rattle.table_core.specs.declared.task.TaskParts.{TaskParts}
use Rattle.query_core.specs.Answers.{answers}
use Rattle.sql_print.specs.Text.{text}
use Rattle.task_read.specs.Told.{WhenReady, WhenFaulty}
use Rattle.task_read.specs.Task.{Files, IsRead, task_told}
use Rattle.command_line.specs.Command.{file_of}
use Rattle.command_line.specs.declared.request.Request.{Request}
use Rattle.top_call.specs.Need.{is_allowed}
use Rattle.top_call.specs.Size.{has_few_skeletons}
use Rattle.top_call.specs.Promise.{is_plain}
use Rattle.top_call.specs.declared.end.End.{End}
use Rattle.top_call.specs.declared.listing.Engine.{Engine}
use Rattle.top_call.specs.declared.listing.Engine.TheVariants.{Search, Plain}
use Rattle.top_call.specs.declared.end.End.TheVariants.{Listed, Empty, Usage, BadTask, ReadFault, WriteFault, OutOfMemory, TooMany, OverBudget}

-- the end of a run that wrote the text of so many answers
abbrev pub end_of : ℕ → End
end_of count = if count == 0 then Empty else Listed count

-- whether an engine lists plainly
abbrev pub lists_plainly : Engine → Bool
lists_plainly Search = false
lists_plainly Plain = true

-- what listing a task of few enough skeletons does to the sink, beside its end
abbrev pub Prints : TaskParts → Option (List ℕ) → Option (List ℕ) → ℕ → ℕ → End → Type 0
Prints task old new before now (Listed count) = ((count ≡ length (answers task)) × (0 < count)) × Gained old new (text task)
Prints task old new before now Empty = (answers task ≡ []) × Gained old new (text task)
Prints task old new before now Usage = ⊥
Prints task old new before now (BadTask fault) = ⊥
Prints task old new before now (ReadFault file) = ⊥
Prints task old new before now WriteFault = GainedFront old new (text task) × Rose before now
Prints task old new before now OutOfMemory = new ≡ old
Prints task old new before now TooMany = ⊥
Prints task old new before now OverBudget = ⊥

-- a refusal of a task of too many, beside its end
abbrev pub Refuses : Option (List ℕ) → Option (List ℕ) → End → Type 0
Refuses old new (Listed count) = ⊥
Refuses old new Empty = ⊥
Refuses old new Usage = ⊥
Refuses old new (BadTask fault) = ⊥
Refuses old new (ReadFault file) = ⊥
Refuses old new WriteFault = ⊥
Refuses old new OutOfMemory = new ≡ old
Refuses old new TooMany = new ≡ old
Refuses old new OverBudget = ⊥

-- a refusal of a task whose search needs more than its budget, beside its end
abbrev pub Overruns : Option (List ℕ) → Option (List ℕ) → End → Type 0
Overruns old new (Listed count) = ⊥
Overruns old new Empty = ⊥
Overruns old new Usage = ⊥
Overruns old new (BadTask fault) = ⊥
Overruns old new (ReadFault file) = ⊥
Overruns old new WriteFault = ⊥
Overruns old new OutOfMemory = new ≡ old
Overruns old new TooMany = ⊥
Overruns old new OverBudget = new ≡ old

-- what is done with a task, beside its end: one of few enough skeletons is listed where its budget allows, and any other is refused
abbrev pub Answers : Bool → Bool → TaskParts → Option (List ℕ) → Option (List ℕ) → ℕ → ℕ → End → Type 0
Answers true true task old new before now end = Prints task old new before now end
Answers true false task old new before now end = Overruns old new end
Answers false allowed task old new before now end = Refuses old new end

-- what a run of a task file does to folder and sink, beside its end; `plain` is whether it lists plainly
abbrev pub Runs : Files → (List ℕ → ℕ) → (List ℕ → ℕ) → Bool → List ℕ → Option (List ℕ) → Option (List ℕ) → ℕ → ℕ → End → Type 0
Runs told unread unread_now plain file old new before now (Listed count) = WhenReady (task_told told file) (λ task. Answers (has_few_skeletons task) (is_allowed plain task) task old new before now (Listed count))
Runs told unread unread_now plain file old new before now Empty = WhenReady (task_told told file) (λ task. Answers (has_few_skeletons task) (is_allowed plain task) task old new before now Empty)
Runs told unread unread_now plain file old new before now Usage = ⊥
Runs told unread unread_now plain file old new before now (BadTask fault) = WhenFaulty (task_told told file) (λ first. fault ≡ first) × (new ≡ old)
Runs told unread unread_now plain file old new before now (ReadFault name) = (IsRead told file name × Rose (unread name) (unread_now name)) × (new ≡ old)
Runs told unread unread_now plain file old new before now WriteFault = WhenReady (task_told told file) (λ task. Answers (has_few_skeletons task) (is_allowed plain task) task old new before now WriteFault) × Rose before now
Runs told unread unread_now plain file old new before now OutOfMemory = new ≡ old
Runs told unread unread_now plain file old new before now TooMany = WhenReady (task_told told file) (λ task. has_few_skeletons task ≡ false) × (new ≡ old)
Runs told unread unread_now plain file old new before now OverBudget = ((plain ≡ false) × WhenReady (task_told told file) (λ task. (has_few_skeletons task ≡ true) × (is_allowed plain task ≡ false))) × (new ≡ old)

-- what a run of words does, beside its end
abbrev pub RunsWords : Files → (List ℕ → ℕ) → (List ℕ → ℕ) → Option Request → Option (List ℕ) → Option (List ℕ) → ℕ → ℕ → End → Type 0
RunsWords told unread unread_now None old new before now end = ((end ≡ Usage) ⊎ (end ≡ OutOfMemory)) × (new ≡ old)
RunsWords told unread unread_now (Some request) old new before now end = Runs told unread unread_now (is_plain request) (file_of request) old new before now end
