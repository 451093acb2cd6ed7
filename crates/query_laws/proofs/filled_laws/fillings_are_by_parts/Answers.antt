use Rattle.query_laws.proofs.FilledLaws.{filter_filled, pair_filled}
use Rattle.query_laws.proofs.filled_laws.fillings_are_by_parts.Goals as goal

pub returns-clause-filters : goal.returns-clause-filters
returns-clause-filters c = filter_filled c.args.task.now

pub returns-clause-pairs : goal.returns-clause-pairs
returns-clause-pairs c = pair_filled c.args.task.now
