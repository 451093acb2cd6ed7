use Rattle.query_laws.proofs.RowLaws.{groups_of_part}
use Rattle.query_laws.proofs.row_laws.groups_of_a_part.Goals as goal

pub returns : goal.returns
returns c = groups_of_part
