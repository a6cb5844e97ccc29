use Rattle.std.proofs.Common.{ℕ, Bool, List, subst}
use Rattle.dependencies.specs.Tables.{table_dependencies}
use Rattle.cycle_search.specs.ComponentThreads.{AreComponentThreads}
use Rattle.cycle_search.specs.Edges.{AreSuccessorsMarked}
use Rattle.cycle_search.proofs.ComponentLemmas.{components-ascend}
use Rattle.cycle_search.proofs.components.Components.new.Goals as goal

pub returns : goal.returns
returns c =
    let ds = table_dependencies c.args.table.now in
    components-ascend ds (record { numbers = c.in_ok-numbers.numbers; cyclic = c.in_ok-cyclic.cyclic; threads = c.in_ok-threads.threads; acquirers = c.in_ok-acquirers.acquirers; locks = c.in_ok-locks.locks })
    c.in_ok-numbers.ensures.each c.in_ok-numbers.ensures.ascend
    (subst (λ (xs : List ℕ). AreSuccessorsMarked ds xs c.in_ok-cyclic.cyclic.items) c.deref.ensures.value c.in_ok-cyclic.ensures) c.in_ok-locks.ensures.locks c.in_ok-locks.ensures.positions c.in_ok-acquirers.ensures
    (subst (λ (xs : List ℕ). AreComponentThreads ds xs c.in_ok-cyclic.cyclic.items c.in_ok-threads.threads) c.deref-2.ensures.value
    (subst (λ (xs : List Bool). AreComponentThreads ds c.deref-2.result.now xs c.in_ok-threads.threads) c.deref-3.ensures.value c.in_ok-threads.ensures))
