use Rattle.std.proofs.Common.{◌≡◌, true, take}
use Rattle.std.specs.List.{list_all}
use Rattle.clap.specs.Walk.{texts as texts_of}
use Rattle.command_line.specs.Word.{is_known}
use Rattle.command_line.proofs.words.texts.Given as goal

abbrev pub invariant-loop-word : goal.invariant-loop-word
invariant-loop-word l = list_all is_known l.words ≡ true → texts_of l.texts.items ≡ take l.word-index l.words
