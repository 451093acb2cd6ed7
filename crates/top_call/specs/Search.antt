-- What a search of a plan keeps, finds and costs.
use Rattle.std.specs.Prelude.{◌≡◌, ◌+◌, ℕ, true, is_some, List, flat_map, length, slice_get, Contains, Option, Some, None, option_and_then}
use Rattle.std.specs.List.{sum_by}
use Rattle.table_core.specs.declared.task.TaskParts.{TaskParts}
use Rattle.query_core.specs.Tree.{Tree}
use Rattle.query_core.specs.Answers.{RankedQuery}
use Rattle.skeleton_graph.specs.Nodes.{tree_at, trees_of}
use Rattle.skeleton_graph.specs.declared.node.SkelNode.{SkelNode}
use Rattle.fill_core.specs.Fits.{RowData, fits}
use Rattle.fill_core.specs.Plans.{IsChild, PlanData}
use Rattle.fill_core.specs.View.{weight_of}
use Rattle.fill_core.specs.declared.end.FillEnd.{FillEnd}
use Rattle.fill_core.specs.declared.end.FillEnd.TheVariants as end
use Rattle.fill_core.specs.declared.job.Job.{Job}
use Rattle.fill_core.specs.declared.job.Job.TheVariants.{Inner, Root}
use Rattle.root_search.specs.Answers.{root_answers}
use Rattle.top_call.specs.declared.search.SearchEnd.{SearchEnd}
use Rattle.top_call.specs.declared.search.SearchEnd.TheVariants.{OverBudget, OutOfMemory}

-- the trees of a plan's nodes, by number
abbrev pub plan_trees : PlanData → List Tree
plan_trees plan = trees_of plan.graph.nodes

-- what a job costs by what it fills: a part its weight, and a root nothing
abbrev pub part_cost : TaskParts → List Tree → Job → ℕ
part_cost task trees (Inner k) = weight_of task (tree_at trees k)
part_cost task trees (Root k) = 0

-- what the parts of a plan weigh together
abbrev pub parts_weigh : PlanData → ℕ
parts_weigh plan = sum_by (part_cost plan.task (plan_trees plan)) plan.jobs

-- the answers of the root of a number
abbrev pub answers_at : TaskParts → List Tree → ℕ → List RankedQuery
answers_at task trees k = root_answers task (k, tree_at trees k)

-- the answers of a plan's roots, in order
abbrev pub plan_answers : PlanData → List RankedQuery
plan_answers plan = flat_map (answers_at plan.task (plan_trees plan)) plan.roots

-- what a search of a plan needs of the budget: the weights of the parts, and the number of answers
abbrev pub plan_need : PlanData → ℕ
plan_need plan = parts_weigh plan + length (plan_answers plan)

-- why a search ends where a part or a root does
abbrev pub search_end : FillEnd → SearchEnd
search_end end.Heavy = OverBudget
search_end end.OutOfMemory = OutOfMemory

-- the row that is kept of a child, none where there is no child or none is kept
abbrev pub kept_row : List (Option RowData) → Option ℕ → Option RowData
kept_row rows None = None
kept_row rows (Some number) = option_and_then (λ row. row) (slice_get rows number)

-- the row of a node is kept
abbrev pub IsKept : List (Option RowData) → ℕ → Type 0
IsKept rows number = is_some (kept_row rows (Some number)) ≡ true

-- each row that is kept fits the node of its number
abbrev pub AreKept : PlanData → List (Option RowData) → Type 0
AreKept plan rows = (number : ℕ) (row : RowData) → slice_get rows number ≡ Some (Some row) → fits row plan number ≡ true

-- the rows of a node's children are kept
abbrev pub ChildrenKept : List SkelNode → List (Option RowData) → ℕ → Type 0
ChildrenKept nodes rows k = (child : ℕ) → IsChild nodes k child → IsKept rows child

-- the rows of the parts that some jobs fill are kept
abbrev pub FilledAreKept : List Job → List (Option RowData) → Type 0
FilledAreKept jobs rows = (k : ℕ) → Contains jobs (Inner k) → IsKept rows k
