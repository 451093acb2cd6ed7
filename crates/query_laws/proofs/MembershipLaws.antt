-- A query is one of the grammar exactly where nothing is wrong with it.
use Rattle.std.proofs.Common.{◌≡◌, refl, sym, ap, ◌∙◌, ℕ, ◌≤◌, Bool, true, false, not, ◌&&◌, ◌==◌, nat_lt, nat_le, length, Option, Some, None, if◌then◌else◌}
use Rattle.std.specs.List.{list_all}
use Rattle.std.specs.Option.{option_or}
use Rattle.std.proofs.lemmas.Bool.{and_parts, and_from, leb-true, le-leb, eqb-true, eq-eqb}
use Rattle.std.proofs.lemmas.List.{length-map}
use Rattle.predicate_core.proofs.OnceLists.{In}
use Rattle.table_core.specs.Limits.{within, are_inputs_within, is_output_within, are_constants_within, first_bad_part}
use Rattle.table_core.specs.Rows.{types_of}
use Rattle.table_core.specs.declared.task.TaskParts.{TaskParts}
use Rattle.table_core.proofs.LimitLaws.{atoms_within}
use Rattle.query_core.specs.Tree.{Tree, Select}
use Rattle.query_core.specs.Meaning.{columns}
use Rattle.query_core.specs.Grammar.{leaves}
use Rattle.query_core.specs.Columns.{names_inputs, names_columns, types_agree}
use Rattle.query_core.specs.Membership.{picks_in_range, picks_agree, each_node, filter_placed, filter_asks, parts_ordered, keys_ascend, agg_apart, agg_allowed, atoms_in_order, atoms_few, fault_unless, names_fault, grammar_fault, size_fault, query_fault}
use Rattle.query_core.specs.Skeleton.{operators, is_formed}
use Rattle.query_core.specs.declared.fault.QueryFault.{QueryFault}
use Rattle.query_core.specs.declared.fault.QueryFault.TheVariants.{BadTable, BadColumn, TypesDiffer, NotInGrammar, TooManyOps, TooManyLeaves, TooManyAtoms}
use Rattle.query_laws.specs.Laws.{plain_queries, FaultsDecide}
use Rattle.query_laws.proofs.ListLaws.{contains_in, in_contains}
use Rattle.query_laws.proofs.AscendingLists.{of_all}
use Rattle.query_laws.proofs.HoleLaws.{MapFits, maps_fit, fitting_maps}
use Rattle.query_laws.proofs.QueryLaws.{opened}
use Rattle.query_laws.proofs.RuleLaws.{all_hold, all_each, each_all, all_of_each, input_named, inputs_each, columns_named, columns_each, types_fit, types_each, parts_meet, few_leaves_meet, meeting_leaves_few, rules, first_rule, second_rule, third_rule, fourth_rule, fifth_rule, sixth_rule, seventh_rule, eighth_rule, ninth_rule, tenth_rule, eleventh_rule, twelfth_rule, rules_form, formed_rules}
use Rattle.query_laws.proofs.StandardFillingLaws.{operators_opened}
use Rattle.query_laws.proofs.StandardQueryLaws.{Belongs, in_belongs, belongs_in}

-- where tests in turn find nothing, each holds
holds : (b : Bool) (fault : QueryFault) (after : Option QueryFault) → fault_unless b fault after ≡ None → (b ≡ true) × (after ≡ None)
holds true fault after e = (refl, e)
holds false fault after e = cc

unless : (b : Bool) (fault : QueryFault) (after : Option QueryFault) → b ≡ true → after ≡ None → fault_unless b fault after ≡ None
unless b fault after e none = rw e none

neither : (first second : Option QueryFault) → option_or first second ≡ None → (first ≡ None) × (second ≡ None)
neither None second e = (refl, e)
neither (Some fault) second e = cc

nor : (first second : Option QueryFault) → first ≡ None → second ≡ None → option_or first second ≡ None
nor first second e none = rw e none

-- a task within its limits allows a leaf
passes : (b : Bool) (n : ℕ) (o : Option ℕ) → (if not b then Some n else o) ≡ None → (b ≡ true) × (o ≡ None)
passes true n o e = (refl, e)
passes false n o e = cc

leaves_within : (task : TaskParts) → first_bad_part task ≡ None → 1 ≤ task.leaves
leaves_within task e =
    let inputs = passes (are_inputs_within task.inputs) _ _ e in
    let output = passes (is_output_within task.output) _ _ inputs.1 in
    let constants = passes (are_constants_within task.constants) _ _ output.1 in
    let ops = passes (within 0 4 task.ops) _ _ constants.1 in
    let few = passes (within 1 3 task.leaves) _ _ ops.1 in
    leb-true 1 task.leaves (and_parts (nat_le 1 task.leaves) (nat_le task.leaves 3) few.0).0

-- each rule holds of a query
abbrev Rules : TaskParts → Select → Type 0
Rules task q =
    (each_node (all_hold (rules task)) q.body ≡ true) × (picks_in_range task q ≡ true) × (picks_agree task q ≡ true) × (nat_le (operators q.body) task.ops ≡ true)

-- a map that fits the output
map_to : (task : TaskParts) (q : Select) → picks_in_range task q ≡ true → picks_agree task q ≡ true → MapFits (columns task.inputs q.body) (types_of task.output) q.picks
map_to task q range agree =
    let h = and_parts (length q.picks == length task.output.columns) (list_all (λ k. nat_lt k (length (columns task.inputs q.body))) q.picks) range in
    let wide = length-map task.output.columns (λ c. c.kind) in
    (eqb-true (length q.picks) (length task.output.columns) h.0 ∙ sym wide, h.1, agree)

map_from : (task : TaskParts) (q : Select) → MapFits (columns task.inputs q.body) (types_of task.output) q.picks → picks_in_range task q ≡ true
map_from task q fits =
    let wide = length-map task.output.columns (λ c. c.kind) in
    and_from (length q.picks == length task.output.columns) (list_all (λ k. nat_lt k (length (columns task.inputs q.body))) q.picks)
    (eq-eqb (length q.picks) (length task.output.columns) (fits.0 ∙ wide)) fits.1

-- what a query of the grammar says of itself is what the rules say
rules_belong : (task : TaskParts) → 1 ≤ task.atoms → (q : Select) → Rules task q → Belongs task q
rules_belong task some q is =
    let h = rules_form task some q.body is.0 in
    let few = ap (λ n. nat_le n task.ops) (operators_opened q.body) ∙ is.3 in (
      and_from (is_formed task (opened q.body)) (nat_le (operators (opened q.body)) task.ops) h.0 few,
      h.1,
      fitting_maps (columns task.inputs q.body) (types_of task.output) q.picks (map_to task q is.1 is.2),
    )

belongs_rules : (task : TaskParts) → 1 ≤ task.atoms → (q : Select) → Belongs task q → Rules task q
belongs_rules task some q is =
    let h = and_parts (is_formed task (opened q.body)) (nat_le (operators (opened q.body)) task.ops) is.0 in
    let fits = maps_fit (columns task.inputs q.body) (types_of task.output) q.picks is.2 in
    (formed_rules task some q.body h.0 is.1, map_from task q fits, fits.2, ap (λ n. nat_le n task.ops) (sym (operators_opened q.body)) ∙ h.1)

module _ (task : TaskParts) (q : Select) where
  -- where no fault is found each rule holds
  faults_rules : query_fault task q ≡ None → Rules task q
  faults_rules e =
      let h = neither (names_fault task q) (option_or (grammar_fault task q.body) (size_fault task q.body)) e in
      let k = neither (grammar_fault task q.body) (size_fault task q.body) h.1 in
      let inputs = holds (names_inputs task q.body) BadTable _ h.0 in
      let range = holds (names_columns task q.body && picks_in_range task q) BadColumn _ inputs.1 in
      let types = holds (types_agree task q.body && picks_agree task q) TypesDiffer None range.1 in
      let placed = holds (each_node filter_placed q.body) (NotInGrammar 1) _ k.0 in
      let asks = holds (each_node filter_asks q.body) (NotInGrammar 2) _ placed.1 in
      let parts = holds (each_node parts_ordered q.body) (NotInGrammar 3) _ asks.1 in
      let keys = holds (each_node keys_ascend q.body) (NotInGrammar 4) _ parts.1 in
      let apart = holds (each_node agg_apart q.body) (NotInGrammar 5) _ keys.1 in
      let allowed = holds (each_node (agg_allowed task) q.body) (NotInGrammar 6) _ apart.1 in
      let order = holds (each_node atoms_in_order q.body) (NotInGrammar 7) None allowed.1 in
      let ops = holds (nat_le (operators q.body) task.ops) TooManyOps _ k.1 in
      let few = holds (nat_le (length (leaves q.body)) task.leaves) TooManyLeaves _ ops.1 in
      let atoms = holds (each_node (atoms_few task) q.body) TooManyAtoms None few.1 in
      let names = and_parts (names_columns task q.body) (picks_in_range task q) range.0 in
      let agree = and_parts (types_agree task q.body) (picks_agree task q) types.0 in
      let meet = few_leaves_meet task q.body (leb-true (length (leaves q.body)) task.leaves few.0) in
      let each : all_each (rules task) q.body ≡ true =
      and_from _ _ (sym (inputs_each task q.body) ∙ inputs.0) (and_from _ _ (sym (columns_each task q.body) ∙ names.0) (and_from _ _ (sym (types_each task q.body) ∙ agree.0)
      (and_from _ _ placed.0 (and_from _ _ asks.0 (and_from _ _ parts.0 (and_from _ _ keys.0 (and_from _ _ apart.0 (and_from _ _ allowed.0 (and_from _ _ order.0
      (and_from _ _ atoms.0 (and_from _ true meet refl))))))))))) in
      (each_all (rules task) q.body each, names.1, agree.1, ops.0)

  -- and where each holds no fault is found
  rules_faults : 1 ≤ task.leaves → Rules task q → query_fault task q ≡ None
  rules_faults some is =
      let each = all_of_each (rules task) q.body is.0 in
      let rule : (f : Tree → Bool) → In f (rules task) → each_node f q.body ≡ true = λ f i. of_all (λ g. each_node g q.body) f (rules task) each i in
      let names = and_from (names_columns task q.body) (picks_in_range task q) (columns_each task q.body ∙ rule (columns_named task) (second_rule task)) is.1 in
      let agree = and_from (types_agree task q.body) (picks_agree task q) (types_each task q.body ∙ rule (types_fit task) (third_rule task)) is.2 in
      let few = le-leb (length (leaves q.body)) task.leaves (meeting_leaves_few task some q.body (rule (parts_meet task) (twelfth_rule task))) in
      let by_names : names_fault task q ≡ None =
      unless _ BadTable _ (inputs_each task q.body ∙ rule (input_named task) (first_rule task)) (unless _ BadColumn _ names (unless _ TypesDiffer None agree refl)) in
      let by_grammar : grammar_fault task q.body ≡ None =
      unless _ (NotInGrammar 1) _ (rule filter_placed (fourth_rule task)) (unless _ (NotInGrammar 2) _ (rule filter_asks (fifth_rule task))
      (unless _ (NotInGrammar 3) _ (rule parts_ordered (sixth_rule task)) (unless _ (NotInGrammar 4) _ (rule keys_ascend (seventh_rule task))
      (unless _ (NotInGrammar 5) _ (rule agg_apart (eighth_rule task)) (unless _ (NotInGrammar 6) _ (rule (agg_allowed task) (ninth_rule task))
      (unless _ (NotInGrammar 7) None (rule atoms_in_order (tenth_rule task)) refl)))))) in
      let by_size : size_fault task q.body ≡ None =
      unless _ TooManyOps _ is.3 (unless _ TooManyLeaves _ few (unless _ TooManyAtoms None (rule (atoms_few task) (eleventh_rule task)) refl)) in
      nor (names_fault task q) (option_or (grammar_fault task q.body) (size_fault task q.body)) by_names (nor (grammar_fault task q.body) (size_fault task q.body) by_grammar by_size)

-- the law
pub faults_decide : (task : TaskParts) → first_bad_part task ≡ None → FaultsDecide task
faults_decide task limits q =
    let some_leaves = leaves_within task limits in
    let some_atoms = (atoms_within task limits).0 in (
      λ e. in_contains (plain_queries task) q (belongs_in task q (rules_belong task some_atoms q (faults_rules task q e))),
      λ c. rules_faults task q some_leaves (belongs_rules task some_atoms q (in_belongs task q (contains_in (plain_queries task) q c))),
    )
