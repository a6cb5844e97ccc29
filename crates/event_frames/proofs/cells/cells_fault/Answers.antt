use Rattle.std.proofs.Common.{◌+◌, ◌-◌, ◌*◌, drop, cond, Bool, Some, sym, ap, ◌∙◌, arith}
use Rattle.trace_model.specs.declared.messages.session.Fault.TheVariants.{BadBatch}
use Rattle.trace_model.specs.Protocol.Frames.{cells_fault}
use Rattle.event_frames.proofs.Batches.{cell_here, cells_end}
use Rattle.event_frames.proofs.cells.cells_fault.Goals as goal

pub returns-in_default : goal.returns-in_default
returns-in_default c =
    sym (c.loop-index.invariant.1 ∙ cells_end c.args.count c.loop-index.index c.args.cells.now c.loop-index-test.true c.in_default.ensures.lookup.3)

pub returns-then-not-is_event_kind : goal.returns-then-not-is_event_kind
returns-then-not-is_event_kind c =
    let n = c.args.count in
    let i = c.loop-index.index in
    let cells = c.args.cells.now in
    sym (c.loop-index.invariant.1 ∙ (cell_here n i c.in-Some.kind.now cells c.loop-index-test.true c.in-Some.ensures.lookup.3.0 c.in-Some.ensures.lookup.1
    ∙ ap (λ (b : Bool). cond b (cells_fault (n - (i + 1)) (drop (9 * (i + 1)) cells)) (Some BadBatch)) (sym c.is_event_kind.ensures ∙ c.if-not-is_event_kind.true)))

pub loop-index-preserved : goal.loop-index-preserved
loop-index-preserved c =
    let n = c.args.count in
    let i = c.loop-index.index in
    let cells = c.args.cells.now in (
      omega (arith, c.loop-index-test.true),
      c.loop-index.invariant.1 ∙ (cell_here n i c.in-Some.kind.now cells c.loop-index-test.true c.in-Some.ensures.lookup.3.0 c.in-Some.ensures.lookup.1
          ∙ ap (λ (b : Bool). cond b (cells_fault (n - (i + 1)) (drop (9 * (i + 1)) cells)) (Some BadBatch)) (sym c.is_event_kind.ensures ∙ c.if-not-is_event_kind.false)),
    )
