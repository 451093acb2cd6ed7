use Rattle.std.proofs.Common.{rules}
use Rattle.table_read.specs.Table.{table_of}
use Rattle.table_read.proofs.SizeFacts.{answer_named, answer_within}
use Rattle.table_read.proofs.reading.read_table.Goals as goal

pub returns-clause-within : goal.returns-clause-within
unfolding table_of
returns-clause-within c = answer_within c.args.name c.args.size c.args.types.now c.args.bytes.now c.table_in.result (search rules)

pub returns-clause-named : goal.returns-clause-named
unfolding table_of
returns-clause-named c = answer_named c.args.name c.args.size c.args.types.now c.args.bytes.now c.table_in.result (search rules)
