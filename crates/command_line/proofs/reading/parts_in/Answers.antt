use Rattle.std.proofs.Common.{ap, sym, ◌∙◌, option_map}
use Rattle.clap.specs.declared.parser.matches.ArgMatches.TheViews.{out-ArgMatches}
use Rattle.command_line.specs.Reading.{parts_text}
use Rattle.command_line.proofs.ReadingLaws.{named_from, unnamed_from}
use Rattle.command_line.proofs.reading.parts_in.Goals as goal

pub returns : goal.returns
returns c =
    named_from (out-ArgMatches c.args.matches.now).found c.in_ok-file.file.now (option_map (λ s. s.now) c.get_str-number.result) (ap (option_map (λ s. s.now)) (sym c.in_ok-file.was) ∙ c.get_str.ensures) c.get_str-number.ensures

pub returns-in_err-file : goal.returns-in_err-file
returns-in_err-file c =
    ap (option_map parts_text) c.from_residual.ensures ∙ unnamed_from (out-ArgMatches c.args.matches.now).found (ap (option_map (λ s. s.now)) (sym c.in_err-file.was) ∙ c.get_str.ensures)
