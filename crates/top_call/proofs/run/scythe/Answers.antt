use Rattle.command_line.specs.Command.{command}
use Rattle.top_call.specs.Line.{line}
use Rattle.top_call.proofs.RunLaws.{front_words, within_words, plain_words, plain_never, over_words, overrun_words, unwritten_allowed, refused_words, kept_words, unwritten_words}
use Rattle.top_call.proofs.WriteLaws.{either_front}
use Rattle.top_call.proofs.run.scythe.Goals as goal

pub returns-clause-out_front : goal.returns-clause-out_front
returns-clause-out_front g c =
    front_words (g.F.Folder.told c.args.folder.now) (g.F.Folder.faults c.args.folder.now) (g.F.Folder.faults c.run-end.new.folder) (command c.args.words.now) (g.K.Sink.written c.args.out.now) (g.K.Sink.written c.run-end.new.out) (g.K.Sink.faults c.args.out.now) (g.K.Sink.faults c.run-end.new.out) c.run-end.result c.run-end.ensures.runs

pub returns-clause-err_front : goal.returns-clause-err_front
returns-clause-err_front g c =
    either_front c.write_line.result (g.E.Sink.written c.args.err.now) (g.E.Sink.written c.write_line.new.err) (line c.run-end.result) c.write_line.ensures.all c.write_line.ensures.front

pub returns-clause-plain : goal.returns-clause-plain
returns-clause-plain g c = λ file e read kept.
    plain_words (g.F.Folder.told c.args.folder.now) (g.F.Folder.faults c.args.folder.now) (g.F.Folder.faults c.run-end.new.folder) (command c.args.words.now) (g.K.Sink.written c.args.out.now) (g.K.Sink.written c.run-end.new.out) (g.K.Sink.faults c.args.out.now) (g.K.Sink.faults c.run-end.new.out) c.run-end.result file c.run-end.ensures.runs e read kept

pub returns-clause-complete : goal.returns-clause-complete
returns-clause-complete g c =
    within_words (g.F.Folder.told c.args.folder.now) (g.F.Folder.faults c.args.folder.now) (g.F.Folder.faults c.run-end.new.folder) (command c.args.words.now) (g.K.Sink.written c.args.out.now) (g.K.Sink.written c.run-end.new.out) (g.K.Sink.faults c.args.out.now) (g.K.Sink.faults c.run-end.new.out) c.run-end.result c.run-end.ensures.runs

pub returns-clause-refused : goal.returns-clause-refused
returns-clause-refused g c =
    refused_words (g.F.Folder.told c.args.folder.now) (g.F.Folder.faults c.args.folder.now) (g.F.Folder.faults c.run-end.new.folder) (command c.args.words.now) (g.K.Sink.written c.args.out.now) (g.K.Sink.written c.run-end.new.out) (g.K.Sink.faults c.args.out.now) (g.K.Sink.faults c.run-end.new.out) c.run-end.result c.run-end.ensures.runs

pub returns-clause-out_refused : goal.returns-clause-out_refused
returns-clause-out_refused g c =
    kept_words (g.F.Folder.told c.args.folder.now) (g.F.Folder.faults c.args.folder.now) (g.F.Folder.faults c.run-end.new.folder) (command c.args.words.now) (g.K.Sink.written c.args.out.now) (g.K.Sink.written c.run-end.new.out) (g.K.Sink.faults c.args.out.now) (g.K.Sink.faults c.run-end.new.out) c.run-end.result c.run-end.ensures.runs

pub returns-clause-out_kept : goal.returns-clause-out_kept
returns-clause-out_kept g c =
    unwritten_words (g.F.Folder.told c.args.folder.now) (g.F.Folder.faults c.args.folder.now) (g.F.Folder.faults c.run-end.new.folder) (command c.args.words.now) (g.K.Sink.written c.args.out.now) (g.K.Sink.written c.run-end.new.out) (g.K.Sink.faults c.args.out.now) (g.K.Sink.faults c.run-end.new.out) c.run-end.result c.run-end.ensures.runs

pub returns-clause-over_budget : goal.returns-clause-over_budget
returns-clause-over_budget g c = λ e.
    (over_words (g.F.Folder.told c.args.folder.now) (g.F.Folder.faults c.args.folder.now) (g.F.Folder.faults c.run-end.new.folder) (command c.args.words.now) (g.K.Sink.written c.args.out.now) (g.K.Sink.written c.run-end.new.out) (g.K.Sink.faults c.args.out.now) (g.K.Sink.faults c.run-end.new.out) c.run-end.result c.run-end.ensures.runs e).1

pub returns-clause-plain_never_over : goal.returns-clause-plain_never_over
returns-clause-plain_never_over g c = λ file is e.
    plain_never (g.F.Folder.told c.args.folder.now) (g.F.Folder.faults c.args.folder.now) (g.F.Folder.faults c.run-end.new.folder) (command c.args.words.now) (g.K.Sink.written c.args.out.now) (g.K.Sink.written c.run-end.new.out) (g.K.Sink.faults c.args.out.now) (g.K.Sink.faults c.run-end.new.out) c.run-end.result file c.run-end.ensures.runs is e

pub returns-clause-write_last : goal.returns-clause-write_last
returns-clause-write_last g c = λ e.
    unwritten_allowed (g.F.Folder.told c.args.folder.now) (g.F.Folder.faults c.args.folder.now) (g.F.Folder.faults c.run-end.new.folder) (command c.args.words.now) (g.K.Sink.written c.args.out.now) (g.K.Sink.written c.run-end.new.out) (g.K.Sink.faults c.args.out.now) (g.K.Sink.faults c.run-end.new.out) c.run-end.result c.run-end.ensures.runs e

pub returns-clause-overrun : goal.returns-clause-overrun
returns-clause-overrun g c = λ file workers is read.
    overrun_words (g.F.Folder.told c.args.folder.now) (g.F.Folder.faults c.args.folder.now) (g.F.Folder.faults c.run-end.new.folder) (command c.args.words.now) (g.K.Sink.written c.args.out.now) (g.K.Sink.written c.run-end.new.out) (g.K.Sink.faults c.args.out.now) (g.K.Sink.faults c.run-end.new.out) c.run-end.result file workers c.run-end.ensures.runs is read
