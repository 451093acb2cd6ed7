-- The standard form of a query, by the rows of its body.
use Rattle.std.proofs.Common.{◌≡◌, sym, ap, subst, ◌∙◌, ℕ, Bool, ◌&&◌, List, [], Some}
use Rattle.std.specs.Prelude.{unwrap_or, IsTrue, Contains}
use Rattle.table_core.specs.Rows.{Row}
use Rattle.table_core.specs.Bag.{has_double}
use Rattle.table_core.specs.declared.task.TaskParts.{TaskParts}
use Rattle.query_core.specs.Tree.{Tree, Select}
use Rattle.query_core.specs.Meaning.{rows, selected, answer}
use Rattle.query_core.specs.Standard.{std, removes_some, std_query, is_standard}
use Rattle.query_laws.specs.Laws.{plain_queries}
use Rattle.query_laws.proofs.StandardTreeLaws.{rows_std}
use Rattle.query_laws.proofs.StandardQueryLaws.{forms_are_queries, forms_are_standard, forms_give_the_same}

removes_same : (task : TaskParts) (q : Select) (found : List Row) → rows task.inputs task.constants q.body ≡ Some found → removes_some task q (std task q.body) ≡ (q.distinct && has_double (selected q.picks found))
removes_same task q found is = ap (λ o. q.distinct && has_double (selected q.picks (unwrap_or o []))) (rows_std task q.body ∙ is)

-- the query of the standard body, the same map, and duplicates removed where the body's rows have some is the standard form
pub form_is : (task : TaskParts) (q : Select) (found : List Row) (body : Tree) (picks : List ℕ) (distinct : Bool) → rows task.inputs task.constants q.body ≡ Some found → body ≡ std task q.body → picks ≡ q.picks → distinct ≡ (q.distinct && has_double (selected q.picks found)) → record { body = body; picks = picks; distinct = distinct } ≡ std_query task q
form_is task q found body picks distinct is of_body of_picks of_distinct =
    ap (λ b. record { body = b; picks = picks; distinct = distinct }) of_body
    ∙ ap (λ p. record { body = std task q.body; picks = p; distinct = distinct }) of_picks
    ∙ ap (λ d. record { body = std task q.body; picks = q.picks; distinct = d }) (of_distinct ∙ sym (removes_same task q found is))

-- what is the standard form of a query is in the grammar where the query is
pub form_listed : (task : TaskParts) (q form : Select) → form ≡ std_query task q → Contains (plain_queries task) q → Contains (plain_queries task) form
form_listed task q form is listed = subst (Contains (plain_queries task)) (sym is) (forms_are_queries task q listed)

-- it is standard
pub form_standard : (task : TaskParts) (q form : Select) → form ≡ std_query task q → IsTrue (is_standard task form)
form_standard task q form is = subst (λ f. IsTrue (is_standard task f)) (sym is) (forms_are_standard task q)

-- and it gives the same rows
pub form_same_rows : (task : TaskParts) (q form : Select) → form ≡ std_query task q → answer task.inputs task.constants form ≡ answer task.inputs task.constants q
form_same_rows task q form is = ap (answer task.inputs task.constants) is ∙ forms_give_the_same task q
