-- Marks of nodes, set on the way down from the roots of a search.
use Rattle.std.specs.Prelude.{ℕ, zero, suc, ◌+◌, Bool, true, false, List, [], ◌∷◌, ◌++◌, length, replicate, slice_index_or, slice_set, Option, Some, None, if◌then◌else◌}
use Rattle.skeleton_graph.specs.declared.node.SkelNode.{SkelNode}
use Rattle.skeleton_graph.specs.Nodes.{left_of, right_of}
use Rattle.fill_core.specs.declared.job.Job.{Job}
use Rattle.fill_core.specs.declared.job.Job.TheVariants.{Inner}

-- marks, and that of a child set, where there is one
abbrev pub with_mark : List Bool → Option ℕ → List Bool
with_mark marks None = marks
with_mark marks (Some child) = slice_set marks child true

-- marks, and those of a node's children set
abbrev pub with_children : List SkelNode → List Bool → ℕ → List Bool
with_children nodes marks k = with_mark (with_mark marks (left_of nodes k)) (right_of nodes k)

-- marks, and those of the children of some nodes set
abbrev pub marked_under : List SkelNode → List Bool → List ℕ → List Bool
marked_under nodes marks [] = marks
marked_under nodes marks (k ∷ numbers) = marked_under nodes (with_children nodes marks k) numbers

-- marks, and those of a node's children set where it is marked
abbrev pub marked_by : List SkelNode → List Bool → ℕ → List Bool
marked_by nodes marks k = if slice_index_or marks k false then with_children nodes marks k else marks

-- marks, and those of the children of each marked node below a number set, the highest first
abbrev pub marked_down : List SkelNode → ℕ → List Bool → List Bool
marked_down nodes zero marks = marks
marked_down nodes (suc k) marks = marked_down nodes k (marked_by nodes marks k)

-- of each node, whether it stands below a root
abbrev pub marks_below : List SkelNode → List ℕ → List Bool
marks_below nodes roots = marked_down nodes (length nodes) (marked_under nodes (replicate (length nodes) false) roots)

-- the jobs of the marked nodes, numbered from a number on
abbrev pub inner_jobs : ℕ → List Bool → List Job
inner_jobs k [] = []
inner_jobs k (mark ∷ marks) = (if mark then Inner k ∷ [] else []) ++ inner_jobs (k + 1) marks
