-- A task's budget is within its limit.
use Rattle.std.proofs.Common.{◌≡◌, ℕ, ◌≤◌, Bool, true, false, not, Option, Some, None, if◌then◌else◌, nat_le, refl}
use Rattle.std.proofs.lemmas.Bool.{and_parts, leb-true}
use Rattle.table_core.specs.Limits.{within, are_inputs_within, is_output_within, are_constants_within, first_bad_part}
use Rattle.table_core.specs.declared.limits.TheConstants.{LARGEST_BUDGET}
use Rattle.table_core.specs.declared.task.TaskParts.{TaskParts}

-- where nothing is found by tests in turn, none of them fails
passes : (b : Bool) (n : ℕ) (o : Option ℕ) → (if not b then Some n else o) ≡ None → (b ≡ true) × (o ≡ None)
passes true n o e = (refl, e)
passes false n o e = cc

pub budget_within : (task : TaskParts) → first_bad_part task ≡ None → task.budget ≤ LARGEST_BUDGET
budget_within task e =
    let inputs = passes (are_inputs_within task.inputs) _ _ e in
    let output = passes (is_output_within task.output) _ _ inputs.1 in
    let constants = passes (are_constants_within task.constants) _ _ output.1 in
    let ops = passes (within 0 4 task.ops) _ _ constants.1 in
    let leaves = passes (within 1 3 task.leaves) _ _ ops.1 in
    let atoms = passes (within 1 3 task.atoms) _ _ leaves.1 in
    let show = passes (within 1 1000 task.show) _ _ atoms.1 in
    let budget = passes (within 1 LARGEST_BUDGET task.budget) 9 None show.1 in
    let both = and_parts (nat_le 1 task.budget) (nat_le task.budget LARGEST_BUDGET) budget.0 in
    leb-true task.budget LARGEST_BUDGET both.1
