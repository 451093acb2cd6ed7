use Rattle.std.proofs.Common.{◌∙◌, arith}
use Rattle.top_call.proofs.search.searched.Goals as goal

pub found-requires-clause-left : goal.found-requires-clause-left
found-requires-clause-left g c = let spent = c.in_ok-parts.ensures.left in omega (arith, spent)

pub returns-clause-found : goal.returns-clause-found
returns-clause-found g c = c.in_ok-sort.ensures.sorted ∙ c.in_ok-list.ensures.found
