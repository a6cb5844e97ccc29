use Rattle.std.proofs.Common.{◌≤◌, length, take, sym, subst}
use Rattle.held_sets.proofs.Follow.{follows_shown}
use Rattle.dependencies.specs.Tables.{Listing, listing_dependencies}
use Rattle.lock_graph.specs.Graph.{IsGraphOf}
use Rattle.std.proofs.lemmas.Result.{IfOk-from_err}
use Rattle.lock_tables.specs.Tables.{shared_holders}
use Rattle.lock_tables.proofs.tables.LockTables.reserve.Goals as goal

pub returns-in_err-reserve_locks-clause-follow : goal.returns-in_err-reserve_locks-clause-follow
returns-in_err-reserve_locks-clause-follow c s before =
    let f = c.catch_up.ensures.follow s before in
    record {
      counted = f.counted;
      held = follows_shown _ _ s (length s) c.reserve_locks.ensures.shown f.held;
      dependencies = f.dependencies;
      graphed = f.graphed;
      graph = f.graph;
    }

pub returns-clause-follow : goal.returns-clause-follow
returns-clause-follow c s before =
    let f = c.catch_up.ensures.follow s before in
    let tables = c.catch_up.new.self in
    let same = c.reserve_place.ensures.shown in
    record {
      counted = f.counted;
      held = follows_shown _ _ s (length s) c.reserve_locks.ensures.shown f.held;
      dependencies = c.tables_follow.ensures.stay tables.dependencies c.reserve_place.new.table s (length s) same f.dependencies;
      graphed = subst (λ (listing : Listing). tables.graphed ≤ length (listing_dependencies listing)) (sym same) f.graphed;
      graph = subst (λ (listing : Listing). IsGraphOf (take tables.graphed (listing_dependencies listing)) (shared_holders tables.graph)) (sym same) f.graph;
    }

pub returns-in_err-catch_up-clause-ok : goal.returns-in_err-catch_up-clause-ok
returns-in_err-catch_up-clause-ok c = IfOk-from_err c.from_residual.result _ c.from_residual.ensures.0

pub returns-in_err-reserve_locks-clause-ok : goal.returns-in_err-reserve_locks-clause-ok
returns-in_err-reserve_locks-clause-ok c = IfOk-from_err c.from_residual-in_err-reserve_locks.result _ c.from_residual-in_err-reserve_locks.ensures.0
