use Rattle.std.proofs.Common.{[], sym, ◌∙◌, subst, arith, true≢false}
use Rattle.dependencies.specs.Tables.{table_dependencies}
use Rattle.trace_model.proofs.Lists.{length-push}
use Rattle.cycle_search.specs.CycleSearch.{AreAll, CycleThrough}
use Rattle.cycle_search.proofs.ComponentLemmas.{other-component}
use Rattle.cycle_search.proofs.DistanceLemmas.{too-far}
use Rattle.cycle_search.proofs.Listing.{none-of}
use Rattle.cycle_search.proofs.Turns.{rejected, full}
use Rattle.cycle_search.proofs.search.may_follow.Goals as goal

pub returns-clause-none : goal.returns-clause-none
returns-clause-none c off = none-of (CycleThrough c.args.search.now.search_input.now c.args.search.now.members c.args.path.now.items c.args.next)
    (rejected c.args.search.now.search_input.now c.args.search.now.members c.args.path.now.items c.args.next c.requires.path.begun
    (λ f. true≢false (sym (c.fits.ensures.1 f.compatible) ∙ off)))

pub returns-then-ends_open-clause-none : goal.returns-then-ends_open-clause-none
returns-then-ends_open-clause-none c off =
    let ends = c.ends_open.ensures in
    let test = c.if-ends_open.true in
    none-of (CycleThrough c.args.search.now.search_input.now c.args.search.now.members c.args.path.now.items c.args.next)
    (full c.args.search.now.search_input.now c.args.search.now.members c.args.path.now.items c.args.next (ends.is_open test)
    (omega (arith, ends.last test, length-push c.args.path.now.items c.args.next)))

pub returns-then-is_too_far-clause-none : goal.returns-then-is_too_far-clause-none
returns-then-is_too_far-clause-none c off = none-of (CycleThrough c.args.search.now.search_input.now c.args.search.now.members c.args.path.now.items c.args.next)
    (too-far c.args.search.now.search_input.now c.args.search.now.members c.args.path.now.items c.args.next c.args.search.now.distances.now
    c.requires.path.begun c.requires.tables.distances c.requires.known (c.is_too_far.ensures c.if-is_too_far.true))

pub returns-then-not-same_component-clause-none : goal.returns-then-not-same_component-clause-none
returns-then-not-same_component-clause-none c off = none-of (CycleThrough c.args.search.now.search_input.now c.args.search.now.members c.args.path.now.items c.args.next)
    (subst (λ ds. AreAll (CycleThrough ds c.args.search.now.members c.args.path.now.items c.args.next) []) c.search_input.view_is
    (other-component (table_dependencies c.search_input.inside.table.now) c.args.search.now.members c.args.path.now.items c.args.next c.search_input.inside.components.now
    c.search_input.invariant.components c.requires.path.begun (λ e. true≢false (sym (c.same_component.ensures.1 e) ∙ c.if-not-same_component.true))))
