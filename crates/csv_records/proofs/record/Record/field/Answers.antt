use Rattle.std.proofs.Common.{◌≡◌, ◌∙◌, ℕ, List, [], ◌∷◌, zero, suc, refl}
use Rattle.std.specs.Prelude.{slice_get}
use Rattle.csv.specs.Records.{field_at}
use Rattle.csv_records.proofs.record.Record.field.Goals as goal

-- csv's word for the element at a place and std's mean the same
field_at-slice_get : (fields : List (List ℕ)) (i : ℕ) → field_at fields i ≡ slice_get fields i
unfolding field_at
field_at-slice_get [] i = refl
field_at-slice_get (f ∷ fs) zero = refl
field_at-slice_get (f ∷ fs) (suc i) = field_at-slice_get fs i

pub returns : goal.returns
returns c = rw (← c.self.view_is) (c.get.ensures.value ∙ field_at-slice_get _ _)
