use Rattle.std.proofs.Common.{[]}
use Rattle.bag_eval.proofs.union.union_firsts.Goals as goal

pub returns : goal.returns
returns c = c.in_ok-push_firsts-2.ensures c.args.lefts.now (c.in_ok-push_firsts.ensures [] c.new-out.ensures)
