use Rattle.std.proofs.Common.{length, map, sym}
use Rattle.std.proofs.lemmas.List.{length-map}
use Rattle.rank_core.specs.View.{ranked_query}
use Rattle.top_call.proofs.RunLaws.{prints_all}
use Rattle.top_call.proofs.listing.write_answers.Goals as goal

pub returns-in-Ok-write_all : goal.returns-in-Ok-write_all
returns-in-Ok-write_all g c =
    let list = c.args.list.now in
    let count = sym (length-map list ranked_query) in
    let printed = c.in-Ok.ensures in
    let gain = rw c.as_slice.ensures.value at c.in-Ok-write_all.ensures.all in
    rw c.end_of.ensures (
    prints_all c.args.task.now (g.K.Sink.written c.args.out.now) (g.K.Sink.written c.write_all.new.sink) (g.K.Sink.faults c.args.out.now) (g.K.Sink.faults c.write_all.new.sink) (length list) (map ranked_query list) c.in-Ok.text.items c.requires count printed gain)
