use Rattle.std.proofs.Common.{sym}
use Rattle.std.proofs.lemmas.List.{take-map}
use Rattle.rank_core.specs.View.{ranked_query}
use Rattle.sql_print.proofs.run.first.Goals as goal

pub returns-else-list-count : goal.returns-else-list-count
returns-else-list-count c = sym (take-map ranked_query c.args.count c.args.list.now)
