use Rattle.std.proofs.Common.{subst, []}
use Rattle.std.specs.Prelude.{All}
use Rattle.std.proofs.lemmas.List.Elements.{All-head}
use Rattle.query_core.specs.Filled.{filled_base}
use Rattle.fill_core.specs.Sites.{site_filled}
use Rattle.fill_core.proofs.site.Site.walk.Goals as goal

pub hand_base-requires-clause-accepts : goal.hand_base-requires-clause-accepts
hand_base-requires-clause-accepts g c =
    let accepts = g.R.Receiver.accepts c.args.receiver.now in
    All-head accepts (filled_base c.args.task.now c.in-Base.table) [] (subst (λ s. All accepts (site_filled c.args.task.now s)) c.in-Base.is c.requires.accepts)
