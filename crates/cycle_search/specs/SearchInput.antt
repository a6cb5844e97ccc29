-- What a search reads beside the dependencies.
use Rattle.std.specs.Prelude.{List}
use Rattle.trace_model.specs.Theory.Dependencies.{Dependency}
use Rattle.lock_graph.specs.declared.graph.LockGraph.{LockGraph}
use Rattle.lock_graph.specs.Graph.{HasGraphOf}
use Rattle.cycle_search.specs.declared.components.Components.{Components}
use Rattle.cycle_search.specs.Components.{AreComponents}

-- The graph and the components are those of the dependencies.
pub record AreSearchInputs (ds : List Dependency) (g : LockGraph) (r : Components) : Type 0 where
  pub graph : HasGraphOf ds g
  pub components : AreComponents ds r
