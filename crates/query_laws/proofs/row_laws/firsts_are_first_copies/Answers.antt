use Rattle.query_laws.proofs.RowLaws.{first_copies}
use Rattle.query_laws.proofs.row_laws.firsts_are_first_copies.Goals as goal

pub returns : goal.returns
returns c = first_copies
