use Rattle.query_laws.proofs.RowLaws.{groups_by_key}
use Rattle.query_laws.proofs.row_laws.groups_are_by_key.Goals as goal

pub returns : goal.returns
returns c = groups_by_key
