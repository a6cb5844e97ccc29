use Rattle.std.proofs.Common.{◌∙◌, ℕ, length, ap}
use Rattle.trace_model.specs.Theory.Dependencies.{Dependency}
use Rattle.dependencies.specs.Tables.{table_dependencies}
use Rattle.lock_graph.specs.Graph.{holders_below}
use Rattle.cycle_search.proofs.Paths.{holders-known, holders-none}
use Rattle.cycle_search.proofs.edges.successors.Goals as goal

pub returns-then-is_unheld : goal.returns-then-is_unheld
returns-then-is_unheld c = holders-none (table_dependencies c.args.table.now) c.args.number
    (λ n a b x y holds. c.requires.locks c.args.number n a b (c.is_unheld.ensures c.if-is_unheld.true) x y holds)

pub returns : goal.returns
returns c =
    let ds = table_dependencies c.args.table.now in
    let graph = c.args.graph.now in
    holders-known ds (holders_below graph (length ds)) c.requires.graph.below c.args.number c.get.result.now c.get.ensures c.successors_at.result.now
    (c.successors_at.ensures ∙ ap (λ (d : Dependency). holders_below graph c.len.result d.lock) c.behind-table.view_is
    ∙ ap (λ (n : ℕ). holders_below graph n c.get.result.now.lock) c.len.ensures.value)
