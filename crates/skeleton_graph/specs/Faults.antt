-- Why there is no graph.
use Rattle.skeleton_graph.specs.declared.fault.ListFault.{ListFault}
use Rattle.skeleton_graph.specs.declared.fault.ListFault.TheVariants as list
use Rattle.skeleton_graph.specs.declared.fault.GraphFault.{GraphFault}
use Rattle.skeleton_graph.specs.declared.fault.GraphFault.TheVariants as graph

-- why there is no graph, where its skeletons aren't listed: there may be at most 100,000
abbrev pub graph_fault : ListFault → GraphFault
graph_fault list.TooMany = graph.TooMany 100000
graph_fault list.OutOfMemory = graph.OutOfMemory
