use Rattle.std.proofs.Common.{◌≡◌, map, take}
use Rattle.sql_print.specs.Sql.{atom_text}
use Rattle.sql_print.proofs.predicate.atom_texts.Given as goal

abbrev pub invariant-loop-atom : goal.invariant-loop-atom
invariant-loop-atom l = l.texts ≡ map (atom_text l.constants l.columns) (take l.atom-index l.atoms)
