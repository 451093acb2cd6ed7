-- The rows of an output as targets: which candidates may be each, and how often it is wanted.
use Rattle.std.specs.Prelude.{ℕ, Bool, nat_le, List, count_by}
use Rattle.std.specs.List.{list_all}
use Rattle.map_walk.specs.declared.target.Target.{Target}

-- how many bits are set
abbrev pub ones : List Bool → ℕ
ones bits = count_by (λ b. b) bits

-- whether each target has at least as many candidates as copies
abbrev pub are_enough : List Target → Bool
are_enough targets = list_all (λ t. nat_le t.copies (ones t.mask)) targets
