-- Which choices of candidate rows may be wanted, by the readings of the candidates.
use Rattle.std.specs.Prelude.{◌≡◌, ℕ, zero, suc, ◌-◌, ◌*◌, Bool, true, ◌==◌, nat_le, List, [], ◌++◌, map, take, drop, length, All, if◌then◌else◌}
use Rattle.std.specs.List.{list_all, list_any, sum_by}
use Rattle.bit_classes.specs.declared.join.Join.{Join}
use Rattle.bit_classes.specs.declared.join.Join.TheVariants.{And, Or}
use Rattle.map_walk.specs.Targets.{ones}
use Rattle.map_walk.specs.declared.target.Reading.{Reading}
use Rattle.map_walk.specs.declared.target.Target.{Target}
use Rattle.root_search.specs.Targets.{shared}

-- the readings of so many candidates
pub record Looked : Type 0 where
  pub readings : List Reading
  pub width : ℕ

-- the masks of some readings tell of so many candidates
abbrev pub AreWide : ℕ → List Reading → Type 0
AreWide width readings = All (λ r. All (λ t. width ≡ length t.mask) r.targets) readings

-- whether these bits keep as many of each target's candidates as it has copies, or more
abbrev pub has_enough : List Bool → Reading → Bool
has_enough bits r = list_all (λ t. nat_le t.copies (shared bits t.mask)) r.targets

-- whether all that they keep are candidates of targets
abbrev pub is_within : List Bool → Reading → Bool
is_within bits r = nat_le (ones bits) (sum_by (λ t. shared bits t.mask) r.targets)

-- whether predicates that are joined so may be wanted, by some reading: AND takes candidates away, so there have to be enough, and OR adds some, so there may be no others
abbrev pub may_be_wanted : Join → List Reading → List Bool → Bool
may_be_wanted And readings bits = list_any (has_enough bits) readings
may_be_wanted Or readings bits = list_any (is_within bits) readings

-- the same of bits of so many candidates; of others nothing is told
abbrev pub may_want : Looked → Join → List Bool → Bool
may_want looked join bits = if length bits == looked.width then may_be_wanted join looked.readings bits else true

-- of what stands for the pairs of so many left rows with so many right ones, and behind each left row's for its padded row: what stands for the pairs
abbrev pub paired : {A : Type 0} → ℕ → ℕ → List A → List A
paired zero rights xs = []
paired (suc lefts) rights xs = take rights xs ++ paired lefts rights (drop 1 (drop rights xs))

-- a target told of the pairs alone: of its copies those are wanted that no padded row can be
abbrev pub paired_target : ℕ → ℕ → Target → Target
paired_target lefts rights t = record { mask = paired lefts rights t.mask; copies = t.copies - (ones t.mask - ones (paired lefts rights t.mask)) }

-- a reading told of the pairs alone
abbrev pub paired_reading : ℕ → ℕ → Reading → Reading
paired_reading lefts rights r = record { picks = r.picks; targets = map (paired_target lefts rights) r.targets }

-- readings of the candidates of a left join, told of its pairs alone
abbrev pub paired_looked : ℕ → ℕ → Looked → Looked
paired_looked lefts rights looked = record { readings = map (paired_reading lefts rights) looked.readings; width = lefts * rights }
