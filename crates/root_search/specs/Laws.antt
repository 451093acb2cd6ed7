-- Laws of targets, and of a task's answers.
use Rattle.std.specs.Prelude.{◌≡◌, ℕ, Bool, false, List, map, flat_map, length, slice_get, Some, All}
use Rattle.std.specs.List.{enumerate_from}
use Rattle.value_core.specs.declared.value.ColType.{ColType}
use Rattle.bit_rows.specs.Masked.{masked}
use Rattle.table_core.specs.Rows.{Row, TableData}
use Rattle.table_core.specs.declared.task.TaskParts.{TaskParts}
use Rattle.query_core.specs.Tree.{Tree}
use Rattle.query_core.specs.Grammar.{skeletons}
use Rattle.query_core.specs.Answers.{ranked, found}
use Rattle.query_core.specs.Filled.{standard_fillings}
use Rattle.map_walk.specs.Targets.{are_enough}
use Rattle.map_walk.specs.declared.target.Target.{Target}
use Rattle.root_search.specs.Answers.{root_answers, FillingFits}
use Rattle.root_search.specs.Readings.{readings}
use Rattle.root_search.specs.Targets.{rows_give, targets, bits_give}

-- the candidates that some bits keep give an output exactly where the bits give its targets
abbrev pub GivenByBits : List ℕ → Bool → List Bool → List Row → List Row → Type 0
GivenByBits picks distinct bits candidates output =
    length bits ≡ length candidates → rows_give picks distinct (masked bits candidates) output ≡ bits_give distinct (length output) bits (targets picks candidates output)

-- where a target has fewer candidates than copies, no bits give the targets
abbrev pub NoneByFew : Bool → ℕ → List Bool → List Target → Type 0
NoneByFew distinct wanted bits targets = are_enough targets ≡ false → bits_give distinct wanted bits targets ≡ false

-- each reading has the targets of its map, and their masks have the length of bits of the candidates
abbrev pub ReadingsFit : List ColType → List Row → TableData → List Bool → Type 0
ReadingsFit types candidates table bits =
    length bits ≡ length candidates → All (λ r. (r.targets ≡ targets r.picks candidates table.rows) × All (λ t. length bits ≡ length t.mask) r.targets) (readings types candidates table)

-- the queries of each skeleton's standard fillings are of the grammar
abbrev pub FillingsFit : TaskParts → Type 0
FillingsFit task = (n : ℕ) (skeleton : Tree) → slice_get (skeletons task) n ≡ Some skeleton → All (FillingFits task skeleton) (standard_fillings task skeleton)

-- the answers of a task are those of its skeletons, in order
abbrev pub AnswersByRoots : TaskParts → Type 0
AnswersByRoots task = map (ranked task) (found task) ≡ flat_map (root_answers task) (enumerate_from 0 (skeletons task))
