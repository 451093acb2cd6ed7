-- The law of the standard form: no query that gives the output is lost, as its standard form is among the answers.
use Rattle.std.specs.Prelude.{◌≡◌, List, map, IsTrue, Contains, ◌↔◌}
use Rattle.table_core.specs.declared.task.TaskParts.{TaskParts}
use Rattle.query_core.specs.Tree.{Select}
use Rattle.query_core.specs.Meaning.{answer}
use Rattle.query_core.specs.Standard.{is_standard, std_query}
use Rattle.query_core.specs.Answers.{gives, answers}
use Rattle.query_laws.specs.Laws.{plain_queries}

-- each query of the grammar has its standard form in the grammar
abbrev pub FormsAreQueries : TaskParts → Type 0
FormsAreQueries task = (q : Select) → Contains (plain_queries task) q → Contains (plain_queries task) (std_query task q)

-- the standard form of a query is standard
abbrev pub FormsAreStandard : TaskParts → Type 0
FormsAreStandard task = (q : Select) → IsTrue (is_standard task (std_query task q))

-- the standard form of a query gives the same rows, in the same order
abbrev pub FormsGiveTheSame : TaskParts → Type 0
FormsGiveTheSame task = (q : Select) → answer task.inputs task.constants (std_query task q) ≡ answer task.inputs task.constants q

-- a standard query is its own standard form
abbrev pub StandardStays : TaskParts → Type 0
StandardStays task = (q : Select) → IsTrue (is_standard task q) → std_query task q ≡ q

-- the answers of a task, without their keys
abbrev pub answered : TaskParts → List Select
answered task = map (λ r. r.query) (answers task)

-- a query is the standard form of one of the grammar that gives the output
abbrev pub IsFormOfFitting : TaskParts → Select → Type 0
IsFormOfFitting task s = (q : Select) × Contains (plain_queries task) q × IsTrue (gives task q) × (s ≡ std_query task q)

-- the answers are exactly the standard forms of the queries of the grammar that give the output
abbrev pub AnswersAreForms : TaskParts → Type 0
AnswersAreForms task = (s : Select) → Contains (answered task) s ↔ IsFormOfFitting task s
