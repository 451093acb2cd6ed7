use Rattle.std.proofs.lemmas.Result.{IfOk-weaker}
use Rattle.query_core.specs.View.{tree}
use Rattle.root_search.proofs.PairLaws.{told_sifts}
use Rattle.root_search.proofs.finder.RootReceiver.of_pairs.Goals as goal

pub returns : goal.returns
returns c =
    let r = c.args.self.now in
    IfOk-weaker c.of_pairs.result _ _ (λ of is types candidates wide are. told_sifts r.task.now r.number (tree r.skeleton.now) types candidates c.args.lefts c.args.rights c.args.findings.now of wide are is) c.of_pairs.ensures
