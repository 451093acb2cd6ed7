use Rattle.std.proofs.Common.{◌≡◌, ℕ, List, [], sym, length, arith}
use Rattle.std.specs.Str.{bytes_eq}
use Rattle.std.proofs.lemmas.List.Sums.{position_or_len_is}
use Rattle.std.proofs.lemmas.Grind.{common_steps}
use Rattle.io_edge.proofs.files.place_of.Goals as goal

pub returns-then-eq-clause-place : goal.returns-then-eq-clause-place
returns-then-eq-clause-place c =
    sym (position_or_len_is (λ (file : List ℕ × List ℕ). bytes_eq file.0 c.args.name.now) c.args.files.now c.loop-place.place ([], [])
    (omega arith) c.loop-place.invariant (λ _. grind (arith, common_steps)))

pub returns-clause-place : goal.returns-clause-place
returns-clause-place c =
    let whole : c.loop-place.place ≡ length c.args.files.now = omega arith in
    sym (position_or_len_is (λ (file : List ℕ × List ℕ). bytes_eq file.0 c.args.name.now) c.args.files.now (length c.args.files.now) ([], [])
    (omega arith) (rw whole at c.loop-place.invariant) (λ l. absurd (omega arith)))
