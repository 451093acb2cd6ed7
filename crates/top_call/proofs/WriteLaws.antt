-- Laws of what was written.
use Rattle.std.proofs.Common.{◌≡◌, ℕ, ◌≤◌, List, ◌++◌, length, Option, Some, None, Result, Ok, Err, OnOk, OnErr, sym, ap, ◌∙◌, arith}
use Rattle.std.proofs.lemmas.List.{append-nil, take_all}
use Rattle.io_edge.specs.Gained.{Gained, GainedFront}
use Rattle.io_edge.specs.Rose.{Rose}
use Rattle.io_edge.proofs.Gains.{gained_then, gained_front_then, rose_later}
use Rattle.io_edge.specs.declared.fault.WriteFault.{WriteFault}

-- a piece was written, and then another
pub all_then : {T : Type 0} (r : Result T WriteFault) (a b c : Option (List ℕ)) (x y : List ℕ) → Gained a b x → OnOk r (Gained b c y) → OnOk r (Gained a c (x ++ y))
all_then (Ok t) a b c x y first second = gained_then a b c x y first second
all_then (Err e) a b c x y first second = tt

-- a piece was written, and then the front of another
pub front_then : {T : Type 0} (r : Result T WriteFault) (a b c : Option (List ℕ)) (x y : List ℕ) → Gained a b x → OnErr r (GainedFront b c y) → OnErr r (GainedFront a c (x ++ y))
front_then (Ok t) a b c x y first second = tt
front_then (Err e) a b c x y first second = gained_front_then a b c x y first second

pub failed_then : {T : Type 0} (r : Result T WriteFault) (a b c : ℕ) → a ≤ b → OnErr r (Rose b c) → OnErr r (Rose a c)
failed_then (Ok t) a b c le rose = tt
failed_then (Err e) a b c le rose = rose_later a b c le rose

-- a piece that was gained is a front of itself
pub gained_front : (a b : Option (List ℕ)) (x : List ℕ) → Gained a b x → GainedFront a b x
gained_front a b x gain = (length x, rw (take_all (length x) x (omega arith)) gain)

-- where nothing was gained, the empty front was
pub unchanged_front : (a b : Option (List ℕ)) (x : List ℕ) → b ≡ a → GainedFront a b x
unchanged_front None b x same = (0, same)
unchanged_front (Some w) b x same = (0, same ∙ ap Some (sym (append-nil w)))

-- whatever the answer, a front of the piece was gained
pub either_front : {T : Type 0} (r : Result T WriteFault) (a b : Option (List ℕ)) (x : List ℕ) → OnOk r (Gained a b x) → OnErr r (GainedFront a b x) → GainedFront a b x
either_front (Ok t) a b x all front = gained_front a b x all
either_front (Err e) a b x all front = front
