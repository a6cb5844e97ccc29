use Rattle.std.proofs.Common.{◌≡◌, Some, length, sym, ap, ◌∙◌, arith}
use Rattle.std.proofs.lemmas.Bool.{eqb-true, eq-eqb, false≢true}
use Rattle.std.proofs.lemmas.List.{length-map}
use Rattle.held_sets.specs.declared.holding.LockDepth.{LockDepth}
use Rattle.held_sets.specs.Tables.{locks_of, depth_of, outer_locks}
use Rattle.held_sets.proofs.Holdings.{none_at_zero, some_at_depth, outer_of_none, outer_of_held, outer_of_some}
use Rattle.held_sets.proofs.holding.Holding.outer_locks.Goals.{then-is_empty-via-then-is_empty, then-is_empty-via-else-is_empty+then-depth-gt0}
use Rattle.held_sets.proofs.holding.Holding.outer_locks.Goals as goal

pub returns-then-is_empty : goal.returns-then-is_empty
returns-then-is_empty c =
    let l = c.args.lock in
    let ds = c.self.inside.locks.items in
    elim c.then-is_empty.branch [
      | then-is_empty-via-then-is_empty w ↦
          let none = eqb-true (length ds) 0 (sym c.is_empty.ensures ∙ w.if-is_empty.true) in
          sym (ap (λ xs. outer_locks l (locks_of xs)) (sym c.self.view_is) ∙ outer_of_none l (locks_of ds) (length-map ds (λ (d : LockDepth). d.lock) ∙ none))
      | then-is_empty-via-else-is_empty+then-depth-gt0 w ↦
          sym (outer_of_held l (locks_of c.args.self.now) (some_at_depth l c.args.self.now (omega (arith, w.depth.ensures, w.if-depth-gt0.true))))
    ]

pub returns : goal.returns
returns c =
    let l = c.args.lock in
    let ds = c.self.inside.locks.items in
    let none : depth_of ds l ≡ 0 = ap (λ xs. depth_of xs l) c.self.view_is ∙ sym c.depth.ensures ∙ omega (arith, c.if-depth-gt0.false) in
    let same = ap locks_of c.self.view_is in
    ap Some (c.locks.ensures ∙ sym same)
    ∙ sym (outer_of_some l (locks_of ds) (none_at_zero l ds c.self.invariant.some none) (λ e. false≢true (sym c.if-is_empty.false ∙ c.is_empty.ensures ∙ eq-eqb _ 0 (sym (length-map ds (λ (d : LockDepth). d.lock)) ∙ e))))
    ∙ ap (outer_locks l) same
