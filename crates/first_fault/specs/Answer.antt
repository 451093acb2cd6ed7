-- What a reader answers, beside what is there to be read. Want of memory may come in the place of any answer.
use Rattle.std.specs.Prelude.{◌≡◌, Result, Ok, Err}
use Rattle.first_fault.specs.declared.stop.Stop.{Stop}
use Rattle.first_fault.specs.declared.stop.Stop.TheVariants.{Fault, OutOfMemory}

-- the value that is there, or the fault
abbrev pub Reads : {A F : Type 0} → Result A (Stop F) → Result A F → Type 0
Reads (Ok x) wanted = wanted ≡ Ok x
Reads (Err (Fault fault)) wanted = wanted ≡ Err fault
Reads (Err OutOfMemory) wanted = Unit {0}

-- a value that stands for the one that is there, or the fault
abbrev pub ReadsAs : {A B F : Type 0} → (B → A) → Result B (Stop F) → Result A F → Type 0
ReadsAs view (Ok x) wanted = wanted ≡ Ok (view x)
ReadsAs view (Err (Fault fault)) wanted = wanted ≡ Err fault
ReadsAs view (Err OutOfMemory) wanted = Unit {0}

-- this fault
abbrev pub Stops : {F : Type 0} → Stop F → F → Type 0
Stops (Fault fault) wanted = fault ≡ wanted
Stops OutOfMemory wanted = Unit {0}

-- the fault of another stop under a new name; want of memory stays what it is
abbrev pub StopsAs : {F G : Type 0} → (F → G) → Stop F → Stop G → Type 0
StopsAs name (Fault fault) stop = Stops stop (name fault)
StopsAs name OutOfMemory stop = stop ≡ OutOfMemory
