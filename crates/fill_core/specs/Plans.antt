-- Plans of a search: which nodes of the graph of skeletons are filled, and which are searched as roots.
use Rattle.std.specs.Prelude.{◌≡◌, ℕ, ◌<◌, ◌≤◌, ◌⊎◌, Bool, List, ◌++◌, All, Contains, filter, length, map, slice_get, take, Some}
use Rattle.std.specs.List.{list_any, range_with_len}
use Rattle.std.specs.List.Sorted.{IsStrictlyIncreasing}
use Rattle.table_core.specs.declared.task.TaskParts.{TaskParts}
use Rattle.query_core.specs.Grammar.{skeletons}
use Rattle.skeleton_graph.specs.declared.node.SkelNode.{SkelNode}
use Rattle.skeleton_graph.specs.Nodes.{above_of, is_among, left_of, right_of, trees_of}
use Rattle.skeleton_graph.specs.GraphData.{GraphData, IsGraph}
use Rattle.fill_core.specs.declared.job.Job.{Job}
use Rattle.fill_core.specs.declared.job.Job.TheVariants.{Inner, Root}

-- whether a node is inner: some root has it below itself
abbrev pub is_inner : List SkelNode → List ℕ → ℕ → Bool
is_inner nodes roots k = list_any (λ root. is_among (above_of nodes k) root) roots

-- the inner nodes, ascending
abbrev pub inner_of : List SkelNode → List ℕ → List ℕ
inner_of nodes roots = filter (is_inner nodes roots) (range_with_len 0 (length nodes))

-- the jobs of a search of these roots: the inner nodes, and then the roots
abbrev pub jobs_of : List SkelNode → List ℕ → List Job
jobs_of nodes roots = map Inner (inner_of nodes roots) ++ map Root roots

-- what a plan shows
pub record PlanData : Type 0 where
  pub task : TaskParts
  pub graph : GraphData
  pub roots : List ℕ
  pub jobs : List Job

-- the plan of a search of these roots
abbrev pub plan_of : TaskParts → GraphData → List ℕ → PlanData
plan_of task graph roots = record { task = task; graph = graph; roots = roots; jobs = jobs_of graph.nodes roots }

-- what holds of every plan: the graph is the task's, its roots ascend and are nodes, and its jobs are those of the roots
pub record IsPlan (task : TaskParts) (graph : GraphData) (roots : List ℕ) (jobs : List Job) : Type 0 where
  pub trees : trees_of graph.nodes ≡ skeletons task
  pub ordered : IsGraph graph.nodes graph.types
  pub ascend : IsStrictlyIncreasing roots
  pub within : All (λ k. k < length graph.nodes) roots
  pub listed : jobs ≡ jobs_of graph.nodes roots
  pub few : length jobs ≤ 200000

-- whether a node has another as its child
abbrev pub IsChild : List SkelNode → ℕ → ℕ → Type 0
IsChild nodes k child = (left_of nodes k ≡ Some child) ⊎ (right_of nodes k ≡ Some child)

-- whether a node has a job: it is inner or a root
abbrev pub HasJob : List SkelNode → List ℕ → ℕ → Type 0
HasJob nodes roots k = Contains (inner_of nodes roots) k ⊎ Contains roots k

-- whether each child of a node with a job is inner, with a lower number
abbrev pub ChildrenAreInner : List SkelNode → List ℕ → Type 0
ChildrenAreInner nodes roots = (k child : ℕ) → HasJob nodes roots k → IsChild nodes k child → Contains (inner_of nodes roots) child × (child < k)

-- the node of a job
abbrev pub node_of : Job → ℕ
node_of (Inner k) = k
node_of (Root k) = k

-- whether each child of a job's node is filled by a job before it
abbrev pub PartsComeFirst : List SkelNode → List Job → Type 0
PartsComeFirst nodes jobs = (i child : ℕ) (job : Job) → slice_get jobs i ≡ Some job → IsChild nodes (node_of job) child → Contains (take i jobs) (Inner child)
