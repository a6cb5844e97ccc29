use Rattle.std.proofs.Common.{subst, sym, ◌∙◌}
use Rattle.trace_index.specs.SegmentTables.{AreAllTables}
use Rattle.trace_index.proofs.Shown.{places_of}
use Rattle.trace_index.proofs.TraceIndex.places_of.Goals as goal

pub invariant_of-result : goal.invariant_of-result
invariant_of-result c =
    let i = c.self.inside in
    places_of i.parts.rows.0 i.parts.tables.sealed.items i.parts.tables.tail c.args.key c.index_of-last.result c.self.invariant.index.shown
    (λ s n are. c.index_of-last.ensures ∙ c.last_in_segments.ensures s n (subst (λ xs. AreAllTables s n xs i.parts.tables.tail) (sym c.deref.ensures.value) are))
