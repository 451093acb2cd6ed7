-- What is kept of the nodes of a graph.
use Rattle.std.specs.Prelude.{◌≡◌, ℕ, ◌<◌, true, List, length, slice_get, is_some, Option, Some, None, option_and_then}
use Rattle.table_core.specs.declared.task.TaskParts.{TaskParts}
use Rattle.skeleton_graph.specs.Nodes.{tree_at, trees_of, first_use_of}
use Rattle.skeleton_graph.specs.declared.node.SkelNode.{SkelNode}
use Rattle.over_eval.specs.Told.{kept_of}
use Rattle.over_eval.specs.declared.kept.KeptPart.{KeptPart}

-- what is kept of a child, none where there is no child or it never has rows
abbrev pub kept_child : List (Option KeptPart) → Option ℕ → Option KeptPart
kept_child kept None = None
kept_child kept (Some number) = option_and_then (λ part. part) (slice_get kept number)

-- of each node that is a part of another, its tree is kept
abbrev pub AreKept : TaskParts → List SkelNode → List (Option KeptPart) → Type 0
AreKept task nodes kept =
    (number : ℕ) → number < length kept → is_some (first_use_of nodes number) ≡ true
    → slice_get kept number ≡ Some (kept_of task (tree_at (trees_of nodes) number))
