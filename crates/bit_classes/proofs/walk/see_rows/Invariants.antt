use Rattle.std.proofs.Common.{◌≡◌, ◌+◌, ◌++◌, drop}
use Rattle.std.specs.List.{enumerate_from}
use Rattle.bit_classes.specs.Walk.{new_vectors}
use Rattle.bit_classes.proofs.WalkLaws.{OnWay}
use Rattle.bit_classes.proofs.walk.see_rows.Given as goal

abbrev pub invariant-loop-i : goal.invariant-loop-i
invariant-loop-i l =
    OnWay l.initial.found (enumerate_from l.number l.rows) l.found (enumerate_from (l.number + l.i) (drop l.i l.rows))
    × (l.news.items ++ new_vectors l.found.classes (l.number + l.i) (drop l.i l.rows) ≡ l.initial.news.items ++ new_vectors l.initial.found.classes l.number l.rows)
