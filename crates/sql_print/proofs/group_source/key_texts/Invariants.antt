use Rattle.std.proofs.Common.{◌≡◌, map, take}
use Rattle.sql_print.specs.Sql.{text_at}
use Rattle.sql_print.proofs.group_source.key_texts.Given as goal

abbrev pub invariant-loop-key : goal.invariant-loop-key
invariant-loop-key l = l.texts ≡ map (text_at l.columns) (take l.key-index l.keys)
