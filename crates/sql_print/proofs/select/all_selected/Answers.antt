use Rattle.std.proofs.Common.{◌≡◌, arith, length, rules}
use Rattle.std.specs.Slice.Iter.{iter_rest}
use Rattle.std.specs.Iterator.Adapters.{zip_first, zip_second}
use Rattle.std.proofs.lemmas.Grind.{common_steps}
use Rattle.std.proofs.lemmas.Slice.Zip.{zip_end}
use Rattle.sql_print.proofs.ZipLaws.{zip_over}
use Rattle.sql_print.proofs.select.all_selected.Goals as goal

pub returns : goal.returns
returns c =
    let first : iter_rest (zip_first c.into_iter-pick-iterator.result) ≡ c.args.picks.now = search rules in
    let second : iter_rest (zip_second c.into_iter-pick-iterator.result) ≡ c.args.output.now = search rules in
    let count = zip_end c.args.picks.now c.args.output.now c.loop-pick.yielded c.into_iter-pick-iterator.result c.loop-pick.pick-iterator c.next.new.self c.next.result first second c.loop-pick.yielded_by c.in-None.is c.next.ensures.steps in
    let over = zip_over c.args.picks.now c.args.output.now (length c.loop-pick.yielded) count in
    grind (arith, common_steps)
