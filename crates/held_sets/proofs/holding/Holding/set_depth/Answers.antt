use Rattle.std.proofs.Common.{◌≡◌, ◌<◌, List, length, slice_set, insert, sym, ap, subst, ◌∙◌, arith}
use Rattle.std.proofs.lemmas.List.{length-set, length-map}
use Rattle.std.specs.List.{refill, remove}
use Rattle.trace_model.specs.declared.limits.TheConstants.{MAX_HELD}
use Rattle.held_sets.specs.declared.holding.LockDepth.{LockDepth}
use Rattle.held_sets.specs.Tables.{locks_of, depth_of, index_for, HasDepth, IsHolding}
use Rattle.held_sets.proofs.Holdings.{found, at_depth, refill_same, index_within, index_most, changed_set, changed_insert, changed_remove, changed_nothing, seen}
use Rattle.held_sets.proofs.Locks.{ascends_from}
use Rattle.held_sets.proofs.holding.Holding.set_depth.Goals as goal

removed : (c : goal.After-remove) → HasDepth c.self.inside.locks.items c.args.lock c.args.depth c.remove.new.self.items × IsHolding c.remove.new.self.items
removed c =
    let ds = c.self.inside.locks.items in
    let f = found c.args.lock ds _ c.index_for-index.result c.found_depth-is_held.result c.as_slice-locks.ensures.value c.self.invariant c.index_for-index.ensures c.found_depth-is_held.ensures in
    changed_remove c.args.lock c.args.depth ds c.remove.new.self.items c.self.invariant c.if-depth-eq0.true (omega (arith, f.1, c.if-is_held.true))
    (c.remove.ensures.items ∙ ap (remove ds) f.0)

inserted : (c : goal.After-insert) → HasDepth c.self.inside.locks.items c.args.lock c.args.depth c.insert.new.self.items × IsHolding c.insert.new.self.items
inserted c =
    let ds = c.self.inside.locks.items in
    let f = found c.args.lock ds _ c.index_for-index.result c.found_depth-is_held.result c.as_slice-locks.ensures.value c.self.invariant c.index_for-index.ensures c.found_depth-is_held.ensures in
    changed_insert c.args.lock c.args.depth ds c.insert.new.self.items c.self.invariant (omega (arith, c.if-depth-eq0.false)) (omega (arith, f.1, c.if-is_held-2.false))
    (c.insert.ensures.items ∙ ap (λ i. insert ds i (at_depth c.args.lock c.args.depth)) f.0)

pub invariant_of-self : goal.invariant_of-self
invariant_of-self c = (removed c).1

pub returns-then-is_held : goal.returns-then-is_held
returns-then-is_held c = seen c.self.inside.locks.items _ _ c.args.lock c.args.depth c.self.view_is (removed c).0

pub invariant_of-self-else-is_held-2 : goal.invariant_of-self-else-is_held-2
invariant_of-self-else-is_held-2 c = (inserted c).1

pub returns-else-is_held-2 : goal.returns-else-is_held-2
returns-else-is_held-2 c = seen c.self.inside.locks.items _ _ c.args.lock c.args.depth c.self.view_is (inserted c).0

pub bounds-as_mut_slice-index : goal.bounds-as_mut_slice-index
bounds-as_mut_slice-index c =
    let ds = c.self.inside.locks.items in
    let f = found c.args.lock ds _ c.index_for-index.result c.found_depth-is_held.result c.as_slice-locks.ensures.value c.self.invariant c.index_for-index.ensures c.found_depth-is_held.ensures in
    let there = index_within c.args.lock ds (ascends_from _ c.self.invariant.ascends) (omega (arith, f.1, c.if-is_held-2.true)) in
    omega (arith, f.0, there, ap length c.as_mut_slice.ensures.value)

pub offset_bounds-as_mut_slice-index : goal.offset_bounds-as_mut_slice-index
offset_bounds-as_mut_slice-index c =
    let inside = bounds-as_mut_slice-index c in
    omega (arith, inside, c.as_mut_slice.ensures.fits)

pub insert-requires : goal.insert-requires
insert-requires c =
    let ds = c.self.inside.locks.items in
    let f = found c.args.lock ds _ c.index_for-index.result c.found_depth-is_held.result c.as_slice-locks.ensures.value c.self.invariant c.index_for-index.ensures c.found_depth-is_held.ensures in
    let room = subst (λ xs. 0 < c.args.depth → depth_of xs c.args.lock ≡ 0 → length (locks_of xs) < MAX_HELD) (sym c.self.view_is) c.requires.room
    (omega (arith, c.if-depth-eq0.false)) (omega (arith, f.1, c.if-is_held-2.false)) in
    (omega arith, (omega (arith, f.0, index_most c.args.lock ds), omega (arith, room, length-map ds (λ (d : LockDepth). d.lock))))

written : (c : goal.After-self-1) → refill (length c.self.inside.locks.items) c.self.inside.locks.items (slice_set c.as_mut_slice.result.now c.index_for-index.result (at_depth c.args.lock c.args.depth))
    ≡ slice_set c.self.inside.locks.items (index_for c.args.lock c.self.inside.locks.items) (at_depth c.args.lock c.args.depth)
written c =
    let ds = c.self.inside.locks.items in
    let x = at_depth c.args.lock c.args.depth in
    let f = found c.args.lock ds _ c.index_for-index.result c.found_depth-is_held.result c.as_slice-locks.ensures.value c.self.invariant c.index_for-index.ensures c.found_depth-is_held.ensures in
    ap (λ xs. refill (length ds) ds (slice_set xs c.index_for-index.result x)) c.as_mut_slice.ensures.value
    ∙ refill_same ds (slice_set ds c.index_for-index.result x) (length-set ds c.index_for-index.result x)
    ∙ ap (λ i. slice_set ds i x) f.0

deeper : (c : goal.After-self-1) → (new : List LockDepth) → new ≡ slice_set c.self.inside.locks.items (index_for c.args.lock c.self.inside.locks.items) (at_depth c.args.lock c.args.depth) →
    HasDepth c.self.inside.locks.items c.args.lock c.args.depth new × IsHolding new
deeper c new e =
    let ds = c.self.inside.locks.items in
    let f = found c.args.lock ds _ c.index_for-index.result c.found_depth-is_held.result c.as_slice-locks.ensures.value c.self.invariant c.index_for-index.ensures c.found_depth-is_held.ensures in
    changed_set c.args.lock c.args.depth ds new c.self.invariant (omega (arith, c.if-depth-eq0.false)) (omega (arith, f.1, c.if-is_held-2.true)) e

pub invariant_of-self-then-is_held-2 : goal.invariant_of-self-then-is_held-2
invariant_of-self-then-is_held-2 c = (deeper c _ (written c)).1

pub returns-then-is_held-2 : goal.returns-then-is_held-2
returns-then-is_held-2 c = seen c.self.inside.locks.items _ _ c.args.lock c.args.depth c.self.view_is (deeper c _ (written c)).0

pub returns-else-is_held : goal.returns-else-is_held
returns-else-is_held c =
    let ds = c.self.inside.locks.items in
    let f = found c.args.lock ds _ c.index_for-index.result c.found_depth-is_held.result c.as_slice-locks.ensures.value c.self.invariant c.index_for-index.ensures c.found_depth-is_held.ensures in
    subst (λ ds. HasDepth ds c.args.lock c.args.depth ds) c.self.view_is
    (changed_nothing c.args.lock c.args.depth ds c.self.invariant c.if-depth-eq0.true (omega (arith, f.1, c.if-is_held.false)))
