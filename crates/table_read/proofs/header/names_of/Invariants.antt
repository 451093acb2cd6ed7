use Rattle.std.proofs.Common.{◌≡◌, [], drop, length}
use Rattle.table_read.specs.Table.{names_after}
use Rattle.table_read.proofs.header.names_of.Given as goal

abbrev pub invariant-loop-at : goal.invariant-loop-at
invariant-loop-at l = record {
  names : names_after l.at l.names.items (drop l.at l.header) ≡ names_after 0 [] l.header;
  width : length l.names.items ≡ l.at;
}
