-- Steps of a reader, for the loops that take one after another.
use Rattle.std.proofs.Common.{◌++◌, List, Result, Ok, Err}

-- elements that were read, before those that are left
abbrev pub after : {A F : Type 0} → List A → Result (List A) F → Result (List A) F
after front (Ok xs) = Ok (front ++ xs)
after front (Err fault) = Err fault
