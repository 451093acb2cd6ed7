use Rattle.std.proofs.Common.{◌≡◌, subst}
use Rattle.task_read.specs.Told.{WhenReady}
use Rattle.task_read.specs.Task.{task_told}
use Rattle.top_call.specs.Listing.{lists_plainly}
use Rattle.top_call.proofs.RunLaws.{runs_ready}
use Rattle.top_call.proofs.run.run_file.Goals as goal

pub returns-in-Ok-clause-runs : goal.returns-in-Ok-clause-runs
returns-in-Ok-clause-runs g c =
    let told = subst (λ file. WhenReady (task_told (g.F.Folder.told c.args.folder.now) file) (λ t. c.in-Ok.task ≡ t)) c.as_slice.ensures c.in-Ok.ensures.told in
    runs_ready (g.F.Folder.told c.args.folder.now) (g.F.Folder.faults c.args.folder.now) (g.F.Folder.faults c.read_task.new.folder) (lists_plainly c.args.listing.now.engine) c.args.file.now
    (g.K.Sink.written c.args.out.now) (g.K.Sink.written c.answer.new.out) (g.K.Sink.faults c.args.out.now) (g.K.Sink.faults c.answer.new.out) c.answer.result c.in-Ok.task told c.answer.ensures
