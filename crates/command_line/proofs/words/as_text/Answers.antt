use Rattle.command_line.proofs.WordLaws.{unknown}
use Rattle.command_line.proofs.words.as_text.Goals as goal

pub returns-in-Err : goal.returns-in-Err
returns-in-Err c = λ known. absurd (unknown c.args.word.now c.in-Err.field-0.valid_up_to c.in-Err.ensures.cases.1 known)
