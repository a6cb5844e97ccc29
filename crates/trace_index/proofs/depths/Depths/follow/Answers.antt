use Rattle.std.proofs.Common.{◌≡◌, ◌+◌, sym, ap, subst, ◌∙◌, arith}
use Rattle.trace_index.specs.Depths.{IsShallow, AreDepths, depth_noted}
use Rattle.trace_index.specs.Links.{trace_of}
use Rattle.trace_index.proofs.KeyLists.{get_trace}
use Rattle.trace_index.proofs.Deep.{shallow_there, depths_next}
use Rattle.trace_index.proofs.depths.Depths.follow.Goals as goal

pub record-requires-clause-shallow : goal.record-requires-clause-shallow
record-requires-clause-shallow c =
    let rows = c.args.rows.now.0 in
    let i = c.loop-index.index in
    let row = c.in-Some.row in
    subst (IsShallow row.event.op) (sym (c.requires.rows i row (sym c.in-Some.ensures)))
    (shallow_there (trace_of rows) c.requires.well_formed i row.event (get_trace rows i row (sym c.in-Some.ensures)))

pub loop-index-preserved : goal.loop-index-preserved
loop-index-preserved c =
    let rows = c.args.rows.now.0 in
    let i = c.loop-index.index in
    let row = c.in-Some.row in
    let s = trace_of rows in
    let before = c.loop-index.invariant.noted in
    let now : c.record.new.self.noted ≡ i + 1 = c.record.ensures.noted ∙ ap (λ n. n + 1) (c.in_ok-at.ensures.noted ∙ before) in
    record {
      noted = now;
      within = omega arith;
      depths = subst (λ n. AreDepths s n c.record.new.self.table) (sym now)
          (depths_next s c.requires.well_formed i row.event row.depth c.loop-index.self.table c.record.new.self.table (get_trace rows i row (sym c.in-Some.ensures))
          (c.requires.rows i row (sym c.in-Some.ensures))
          (subst (λ n. AreDepths s n c.loop-index.self.table) before c.loop-index.invariant.depths)
          (λ l. c.record.ensures.depths l ∙ ap (depth_noted row.event.op row.depth l) (c.in_ok-at.ensures.shown l)));
    }
