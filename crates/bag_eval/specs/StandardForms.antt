-- What is told of the standard form of a query.
use Rattle.std.specs.Prelude.{List, Option, Some, None}
use Rattle.table_core.specs.Rows.{Row}
use Rattle.table_core.specs.declared.task.TaskParts.{TaskParts}
use Rattle.query_core.specs.Tree.{Select}
use Rattle.query_core.specs.View.{select}
use Rattle.query_core.specs.Meaning.{rows}
use Rattle.query_core.specs.Standard.{std_query}
use Rattle.bag_eval.specs.declared.standard.Standard.{Standard}
use Rattle.bag_eval.specs.declared.standard.Standard.TheVariants.{Form, Past64}

-- the plain query of a form, none where a sum leaves 64 bits
abbrev pub formed : Standard → Option Select
formed (Form q) = Some (select q)
formed Past64 = None

-- the standard form of a query whose body gives these rows, none where a sum in it leaves 64 bits and there are none
abbrev pub standard_on : TaskParts → Select → Option (List Row) → Option Select
standard_on task q None = None
standard_on task q (Some body) = Some (std_query task q)

-- the standard form of a query, none exactly where a sum in its body leaves 64 bits
abbrev pub standard_of : TaskParts → Select → Option Select
standard_of task q = standard_on task q (rows task.inputs task.constants q.body)
