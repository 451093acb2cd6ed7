use Rattle.std.proofs.Common.{sym, ap, ◌∙◌}
use Rattle.std.specs.Prelude.{slice_get}
use Rattle.top_call.proofs.SearchLaws.{none_there}
use Rattle.top_call.proofs.search.no_rows.Goals as goal

pub returns-clause-none : goal.returns-clause-none
returns-clause-none c = λ k row there. none_there c.loop.counter k row (ap (λ rows. slice_get rows k) (sym c.loop.invariant) ∙ there)
