-- What a task within its limits has, and a query in which nothing is wrong.
use Rattle.std.proofs.Common.{◌≡◌, ℕ, zero, suc, ◌≤◌, Bool, true, false, not, nat_le, List, [], ◌∷◌, length, Option, Some, None, if◌then◌else◌, refl, arith}
use Rattle.std.specs.List.{list_all}
use Rattle.std.proofs.lemmas.Bool.{and_parts, leb-true}
use Rattle.std.proofs.lemmas.List.{length-map}
use Rattle.table_core.specs.Limits.{within, all_distinct, same_column_name, same_table_name, is_table_within, are_inputs_within, is_output_within, are_constants_within, first_bad_part}
use Rattle.table_core.specs.Rows.{TableData, types_of}
use Rattle.table_core.specs.declared.task.TaskParts.{TaskParts}
use Rattle.value_core.specs.Value.{same, is_null}
use Rattle.query_core.specs.Tree.{Select}
use Rattle.query_core.specs.Grammar.{leaves}
use Rattle.query_core.specs.Meaning.{columns, input_at}
use Rattle.query_core.specs.Membership.{each_node, keys_ascend, query_fault}
use Rattle.query_core.specs.Skeleton.{operators, is_formed}
use Rattle.query_laws.specs.Laws.{plain_queries}
use Rattle.query_laws.proofs.AscendingLists.{of_all}
use Rattle.query_laws.proofs.HoleLaws.{maps_fit}
use Rattle.query_laws.proofs.ListLaws.{contains_in}
use Rattle.query_laws.proofs.MembershipLaws.{faults_decide}
use Rattle.query_laws.proofs.QueryLaws.{opened}
use Rattle.query_laws.proofs.RuleLaws.{all_of_each, rules, seventh_rule, twelfth_rule, parts_meet, meeting_leaves_few, formed_rules}
use Rattle.query_laws.proofs.SkeletonLaws.{three_parts}
use Rattle.query_laws.proofs.StandardFillingLaws.{operators_opened}
use Rattle.query_laws.proofs.StandardQueryLaws.{in_belongs}

-- where nothing is found by tests in turn, none of them fails
passes : (b : Bool) (n : ℕ) (o : Option ℕ) → (if not b then Some n else o) ≡ None → (b ≡ true) × (o ≡ None)
passes true n o e = (refl, e)
passes false n o e = cc

is_within : (low high n : ℕ) → within low high n ≡ true → (low ≤ n) × (n ≤ high)
is_within low high n e = let both = and_parts (nat_le low n) (nat_le n high) e in (leb-true low n both.0, leb-true n high both.1)

-- a table within its limits is no wider than they allow
narrow : (widest longest : ℕ) (table : TableData) → is_table_within widest longest table ≡ true → length table.columns ≤ widest
narrow widest longest table e =
    let h = three_parts (within 1 widest (length table.columns)) (nat_le (length table.rows) longest) (all_distinct same_column_name table.columns) e in
    (is_within 1 widest (length table.columns) h.0).1

narrow_at : (inputs : List TableData) → list_all (is_table_within 6 16) inputs ≡ true → (at : ℕ) → length (input_at inputs at).columns ≤ 6
narrow_at [] e at = omega arith
narrow_at (table ∷ others) e zero = narrow 6 16 table (and_parts (is_table_within 6 16 table) (list_all (is_table_within 6 16) others) e).0
narrow_at (table ∷ others) e (suc at) = narrow_at others (and_parts (is_table_within 6 16 table) (list_all (is_table_within 6 16) others) e).1 at

-- what a task within its limits has
pub record Limited (task : TaskParts) : Type 0 where
  pub inputs : (at : ℕ) → length (input_at task.inputs at).columns ≤ 6
  pub output : length task.output.columns ≤ 4
  pub constants : length task.constants ≤ 6
  pub ops : task.ops ≤ 4
  pub leaves : (1 ≤ task.leaves) × (task.leaves ≤ 3)
  pub atoms : 1 ≤ task.atoms

pub limited : (task : TaskParts) → first_bad_part task ≡ None → Limited task
limited task e =
    let inputs = passes (are_inputs_within task.inputs) _ _ e in
    let output = passes (is_output_within task.output) _ _ inputs.1 in
    let constants = passes (are_constants_within task.constants) _ _ output.1 in
    let ops = passes (within 0 4 task.ops) _ _ constants.1 in
    let leaves = passes (within 1 3 task.leaves) _ _ ops.1 in
    let atoms = passes (within 1 3 task.atoms) _ _ leaves.1 in
    let each = three_parts (within 1 4 (length task.inputs)) (list_all (is_table_within 6 16) task.inputs) (all_distinct same_table_name task.inputs) inputs.0 in
    let few = three_parts (nat_le (length task.constants) 6) (list_all (λ c. not (is_null c)) task.constants) (all_distinct same task.constants) constants.0 in
    record {
      inputs = narrow_at task.inputs each.1;
      output = narrow 4 64 task.output output.0;
      constants = leb-true (length task.constants) 6 few.0;
      ops = (is_within 0 4 task.ops ops.0).1;
      leaves = is_within 1 3 task.leaves leaves.0;
      atoms = (is_within 1 3 task.atoms atoms.0).0;
    }

-- what a query has in which nothing is wrong
pub record Small (q : Select) : Type 0 where
  pub operators : operators q.body ≤ 4
  pub leaves : length (leaves q.body) ≤ 3
  pub keys : each_node keys_ascend q.body ≡ true
  pub picks : length q.picks ≤ 4

pub small : (task : TaskParts) → first_bad_part task ≡ None → (q : Select) → query_fault task q ≡ None → Small q
small task e q none =
    let limits = limited task e in
    let is = in_belongs task q (contains_in (plain_queries task) q ((faults_decide task e q).0 none)) in
    let skeleton = and_parts (is_formed task (opened q.body)) (nat_le (operators (opened q.body)) task.ops) is.0 in
    let each = all_of_each (rules task) q.body (formed_rules task limits.atoms q.body skeleton.0 is.1) in
    let meet = of_all (λ f. each_node f q.body) (parts_meet task) (rules task) each (twelfth_rule task) in
    let ops = leb-true (operators (opened q.body)) task.ops skeleton.1 in
    let fits = maps_fit (columns task.inputs q.body) (types_of task.output) q.picks is.2 in
    record {
      operators = omega (arith, ops, operators_opened q.body, limits.ops);
      leaves = omega (arith, meeting_leaves_few task limits.leaves.0 q.body meet, limits.leaves.1);
      keys = of_all (λ f. each_node f q.body) keys_ascend (rules task) each (seventh_rule task);
      picks = omega (arith, fits.0, length-map task.output.columns (λ c. c.kind), limits.output);
    }
