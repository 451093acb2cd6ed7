-- What a reader answers, beside what is told.
use Rattle.std.specs.Prelude.{◌≡◌, ℕ, List, Result, Ok, Err}
use Rattle.task_read.specs.Told.{Told, WhenReady, WhenFaulty}
use Rattle.task_read.specs.declared.fault.TaskFault.{TaskFault}
use Rattle.task_read.specs.declared.fault.TaskEnd.{TaskEnd}
use Rattle.task_read.specs.declared.fault.TaskEnd.TheVariants.{ReadFault, Bad, OutOfMemory}

-- a fault is answered only where what is told has that first fault
abbrev pub Refuses : {A : Type 0} → Told A TaskFault → TaskEnd → Type 0
Refuses state (ReadFault file) = Unit {0}
Refuses state (Bad fault) = WhenFaulty state (λ first. fault ≡ first)
Refuses state OutOfMemory = Unit {0}

-- what is read is what is told
abbrev pub Reads : {A B : Type 0} → (B → A) → Told A TaskFault → Result B TaskEnd → Type 0
Reads view state (Ok x) = WhenReady state (λ y. view x ≡ y)
Reads view state (Err end) = Refuses state end

-- a fact of the file that couldn't be read
abbrev pub IfReadFault : TaskEnd → (List ℕ → Type 0) → Type 0
IfReadFault (ReadFault file) P = P file
IfReadFault (Bad fault) P = Unit {0}
IfReadFault OutOfMemory P = Unit {0}

-- a fact of each answer but that a file couldn't be read
abbrev pub UnlessReadFault : {B : Type 0} → Result B TaskEnd → Type 0 → Type 0
UnlessReadFault (Ok x) P = P
UnlessReadFault (Err (ReadFault file)) P = Unit {0}
UnlessReadFault (Err (Bad fault)) P = P
UnlessReadFault (Err OutOfMemory) P = P
