use Rattle.std.proofs.Common.{List, Bool, Some, sym, ap, ◌∙◌, subst, arith}
use Rattle.trace_model.specs.Theory.Dependencies.{Dependency}
use Rattle.dependencies.specs.Tables.{table_dependencies}
use Rattle.cycle_search.specs.CycleSearch.{CycleFrom}
use Rattle.cycle_search.proofs.ComponentLemmas.{none-from, threads-count, threads-differ, threads-known, threads_of}
use Rattle.cycle_search.proofs.Listing.{none-of}
use Rattle.cycle_search.proofs.search.most_members.Goals as goal

pub returns-clause-all : goal.returns-clause-all
returns-clause-all c = λ numbers h.
    let ds = table_dependencies c.search_input.inside.table.now in
    let components = c.search_input.inside.components.now in
    let are = c.search_input.invariant.components in
    let own = subst (λ (xs : List Dependency). CycleFrom xs c.args.bound c.args.root numbers) (sym c.search_input.view_is) h in
    let few = c.thread_count-threads.ensures (threads_of ds numbers) (threads-differ ds c.args.bound numbers own.0 components are) (λ thread has. threads-known ds c.args.bound numbers own.0 components are c.args.root thread own.1 has) in
    omega (arith, few, h.0.at_most, threads-count ds numbers)

pub returns-then-not-is_cyclic-clause-all : goal.returns-then-not-is_cyclic-clause-all
returns-then-not-is_cyclic-clause-all c = λ numbers h.
    let ds = table_dependencies c.search_input.inside.table.now in
    let off = c.is_cyclic.ensures ∙ ap (λ (b : Bool). Some b) c.if-not-is_cyclic.true in
    let own = subst (λ (xs : List Dependency). CycleFrom xs c.args.bound c.args.root numbers) (sym c.search_input.view_is) h in
    absurd (none-of (CycleFrom ds c.args.bound c.args.root) (none-from ds c.args.bound c.args.root c.search_input.inside.components.now c.search_input.invariant.components off) numbers own)
