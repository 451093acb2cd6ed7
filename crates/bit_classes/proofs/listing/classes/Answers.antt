use Rattle.std.proofs.Common.{◌≡◌, ◌≤◌, length}
use Rattle.std.proofs.lemmas.Result.{err_from_is_err_and, IfOk-weaker}
use Rattle.bit_classes.specs.declared.class.ClassEnd.TheVariants.{More}
use Rattle.bit_classes.specs.Vectors.{vectors}
use Rattle.bit_classes.specs.Classes.{classes_of}
use Rattle.bit_classes.proofs.WholeLaws.{all_classes, too_many}
use Rattle.bit_classes.proofs.listing.classes.Goals as goal

pub returns-in_err-see_all-clause-more : goal.returns-in_err-see_all-clause-more
returns-in_err-see_all-clause-more c =
    let p = err_from_is_err_and c.from_residual.result c.from_residual.ensures.1 in
    let end = c.in_err-see_all.field-0.0 in
    λ e.
    let returned = p.1 in
    let same = p.2 in
    let more : end ≡ More = cc in
    too_many c.args.width c.args.limit c.args.bound c.args.atoms.now c.new-found.result c.see_all.new.found c.new-found.ensures c.requires.widths end c.in_err-see_all.ensures more

pub returns-clause-classes : goal.returns-clause-classes
returns-clause-classes c =
    let all = all_classes c.args.width c.args.limit c.args.bound c.args.atoms.now c.new-found.result c.see_all.new.found c.new-found.ensures c.requires.widths c.in_ok-see_all.ensures in
    rw (← all.0) c.into_classes.ensures.classes

pub returns-clause-within : goal.returns-clause-within
returns-clause-within c =
    let all = all_classes c.args.width c.args.limit c.args.bound c.args.atoms.now c.new-found.result c.see_all.new.found c.new-found.ensures c.requires.widths c.in_ok-see_all.ensures in
    let few : length (classes_of (vectors c.args.width c.args.atoms.now c.args.bound)) ≤ c.args.limit = rw (← all.0, ← all.1) c.into_classes.ensures.within in
    IfOk-weaker c.into_classes.result _ _ (λ v h. few) c.into_classes.ensures.classes
