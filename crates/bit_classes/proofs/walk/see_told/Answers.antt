use Rattle.std.proofs.Common.{sym, ap, List, Option, Bool, ℕ}
use Rattle.bit_classes.specs.Walk.{Walk, combined_told, with_vectors}
use Rattle.bit_classes.proofs.SplitLaws.{none_numbered, none_joined}
use Rattle.bit_classes.proofs.walk.see_told.Goals as goal

pub returns-in-None : goal.returns-in-None
returns-in-None c =
    let found = c.args.found.now in
    let f : Option (List Bool) → Option (List Bool) = combined_told c.args.join c.args.row.now in
    let none = none_numbered f (λ other. none_joined c.args.join c.args.row.now other c.in-None.is) c.args.number c.args.others.now in
    let after : List (ℕ × List Bool) → Walk = λ es. record found { classes = with_vectors found.classes es } in
    ap after (sym none)
