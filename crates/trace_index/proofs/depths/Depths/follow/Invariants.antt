use Rattle.std.proofs.Common.{◌≡◌, ◌≤◌, length}
use Rattle.trace_index.specs.Depths.{AreDepths}
use Rattle.trace_index.specs.Links.{trace_of}
use Rattle.trace_index.proofs.depths.Depths.follow.Given as goal

abbrev pub invariant-loop-index : goal.invariant-loop-index
invariant-loop-index l = record {
  noted : l.self.noted ≡ l.index;
  within : l.index ≤ length l.rows.0;
  depths : AreDepths (trace_of l.rows.0) l.self.noted l.self.table;
}
