use Rattle.std.proofs.Common.{arith, length, subst, sym}
use Rattle.std.proofs.lemmas.List.{take_all}
use Rattle.std.specs.Arc.{arc_value}
use Rattle.dependencies.specs.Tables.{HasDependenciesOf, Listing, listing_dependencies, table_dependencies}
use Rattle.lock_graph.specs.Graph.{HasGraphOf}
use Rattle.lock_tables.proofs.OneFurther.{graph_part, graph_same}
use Rattle.lock_tables.proofs.tables.LockTables.parts.Goals as goal

pub returns-in-Ok : goal.returns-in-Ok
returns-in-Ok c s f =
    let tables = c.args.self in
    let ds = table_dependencies tables.dependencies in
    let own = c.in-Ok.graph in
    let room = c.free_numbers.new.self.room in
    let same = sym c.free_numbers.ensures in
    let graph = subst (λ xs. HasGraphOf xs (arc_value own)) (take_all tables.graphed ds c.requires) (graph_part ds tables.graphed tables.graphed (arc_value own) (graph_same _ _ _ c.in-Ok.ensures f.graph) (omega arith) f.graphed) in
    record {
      dependencies = subst (λ (shown : Listing). HasDependenciesOf (record { shown = shown; room = room }) s (length s)) same f.dependencies;
      graph = subst (λ (shown : Listing). HasGraphOf (listing_dependencies shown) (arc_value own)) same graph;
    }
