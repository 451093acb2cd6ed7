use Rattle.command_line.specs.Command.{command}
use Rattle.top_call.proofs.RunLaws.{unread_words}
use Rattle.top_call.proofs.run.run.Goals as goal

pub returns-in_default-clause-runs : goal.returns-in_default-clause-runs
returns-in_default-clause-runs g c =
    unread_words (g.F.Folder.told c.args.folder.now) (g.F.Folder.faults c.args.folder.now) (g.F.Folder.faults c.args.folder.now) (command c.args.words.now) (g.K.Sink.written c.args.out.now) (g.K.Sink.faults c.args.out.now) (g.K.Sink.faults c.args.out.now)
