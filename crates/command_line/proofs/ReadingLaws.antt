-- What is named among clap's matches.
use Rattle.std.proofs.Common.{◌≡◌, Option, Some, None, ap, ap₂, ◌∙◌, codes, option_map}
use Rattle.clap.specs.Matches.{first_value}
use Rattle.clap.specs.Walk.{Text, first_of, rows_of}
use Rattle.clap.specs.declared.parser.matches.Found.{Found}
use Rattle.clap.proofs.WalkLemmas.{first_value-rows}
use Rattle.command_line.specs.Reading.{parts_in}

pub named_from : (f : Found) (file : Text) (number : Option Text) → Some file ≡ first_value f (codes "file") → number ≡ first_value f (codes "workers") → Some (file, number) ≡ parts_in (rows_of f)
named_from f file number e g =
    ap₂ (λ (o : Option Text) (n : Option Text). option_map (λ (x : Text). (x, n)) o) (e ∙ first_value-rows f (codes "file")) (g ∙ first_value-rows f (codes "workers"))

pub unnamed_from : (f : Found) → None ≡ first_value f (codes "file") → None ≡ parts_in (rows_of f)
unnamed_from f e = ap (option_map (λ (x : Text). (x, first_of (codes "workers") (rows_of f)))) (e ∙ first_value-rows f (codes "file"))
