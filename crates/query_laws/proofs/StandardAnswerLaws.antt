-- The answers are exactly the standard forms of the queries that give the output, each once.
use Rattle.std.proofs.Common.{◌≡◌, sym, ap, subst, ◌∙◌, ◌&&◌, true, map}
use Rattle.std.proofs.lemmas.Bool.{and_parts, and_from}
use Rattle.predicate_core.specs.Laws.{EachOnce}
use Rattle.predicate_core.proofs.OnceLists.{In, Once, in_map, each_once}
use Rattle.table_core.specs.declared.task.TaskParts.{TaskParts}
use Rattle.query_core.specs.Tree.{Select}
use Rattle.query_core.specs.Grammar.{Numbered, queries}
use Rattle.query_core.specs.Standard.{is_standard, std_query}
use Rattle.query_core.specs.Answers.{RankedQuery, are_output, gives, ranked, comes_before, is_answer, found, answers}
use Rattle.query_core.proofs.MapLaws.{map_twice}
use Rattle.query_laws.specs.Laws.{plain_queries}
use Rattle.query_laws.specs.StandardForm.{answered, AnswersAreForms}
use Rattle.query_laws.proofs.ListLaws.{contains_in, in_contains}
use Rattle.query_laws.proofs.MemberLaws.{map_in, in_filter, filter_in}
use Rattle.query_laws.proofs.JoinedLists.{once_map_filter}
use Rattle.query_laws.proofs.QueryLaws.{once_plain_queries}
use Rattle.query_laws.proofs.AnswerLaws.{in_ascending, ascending_in, once_ascending}
use Rattle.query_laws.proofs.StandardQueryLaws.{forms_are_queries, forms_are_standard, forms_give_the_same, standard_stays}

-- an answer is a standard query of the grammar that gives the output
in_answers : (task : TaskParts) (s : Select) → In s (answered task) → In s (plain_queries task) × (is_standard task s ≡ true) × (gives task s ≡ true)
in_answers task s i =
    let query : RankedQuery → Select = λ r. r.query in
    let r = in_map query s (answers task) i in
    let n = in_map (ranked task) r.0 (found task) (in_ascending comes_before (map (ranked task) (found task)) r.0 r.1) in
    let k = in_filter (is_answer task) n.0 (queries task) n.1 in
    let plain : Numbered → Select = λ m. m.query in
    let same : s ≡ n.0.query = r.2 ∙ ap query n.2 in
    let h = and_parts (is_standard task n.0.query) (gives task n.0.query) k.1 in
    let P : Select → Type 0 = λ q. In q (plain_queries task) × (is_standard task q ≡ true) × (gives task q ≡ true) in
    subst P (sym same) (map_in plain n.0 (queries task) k.0, h.0, h.1)

-- and each of those is an answer
answers_in : (task : TaskParts) (s : Select) → In s (plain_queries task) → is_standard task s ≡ true → gives task s ≡ true → In s (answered task)
answers_in task s i standard fits =
    let query : RankedQuery → Select = λ r. r.query in
    let plain : Numbered → Select = λ m. m.query in
    let n = in_map plain s (queries task) i in
    let is = and_from (is_standard task s) (gives task s) standard fits in
    let passes : is_answer task n.0 ≡ true = ap (λ q. is_standard task q && gives task q) (sym n.2) ∙ is in
    let listed = map_in (ranked task) n.0 (found task) (filter_in (is_answer task) n.0 (queries task) passes n.1) in
    let P : Select → Type 0 = λ q. In q (answered task) in
    subst P (sym n.2) (map_in query (ranked task n.0) (answers task) (ascending_in comes_before (map (ranked task) (found task)) (ranked task n.0) listed))

-- the standard form of a query gives the output where the query does
gives_std : (task : TaskParts) (q : Select) → gives task (std_query task q) ≡ gives task q
gives_std task q = ap (are_output task q) (forms_give_the_same task q)

pub answers_are_forms : (task : TaskParts) → AnswersAreForms task
answers_are_forms task s = (
  λ c.
      let h = in_answers task s (contains_in (answered task) s c) in
      (s, in_contains (plain_queries task) s h.0, h.2, sym (standard_stays task s h.1)),
  λ h.
      let form = std_query task h.0 in
      let listed = contains_in (plain_queries task) form (forms_are_queries task h.0 h.1) in
      let answer = answers_in task form listed (forms_are_standard task h.0) (gives_std task h.0 ∙ h.2) in
      in_contains (answered task) s (subst (λ q. In q (answered task)) (sym h.3) answer),
)

-- each answer stands once, as each query of the grammar does
once_found : (task : TaskParts) → Once (map (λ r. r.query) (map (ranked task) (found task)))
once_found task = rw (map_twice (λ r. r.query) (ranked task) (found task)) (once_map_filter (λ n. n.query) (is_answer task) (queries task) (once_plain_queries task))

pub answers_once : (task : TaskParts) → EachOnce (answered task)
answers_once task = each_once (answered task) (once_ascending (λ r. r.query) comes_before (map (ranked task) (found task)) (once_found task))
