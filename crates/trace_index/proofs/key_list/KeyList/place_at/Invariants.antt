use Rattle.std.proofs.Common.{◌≡◌, ◌<◌, length, true, ◌+◌}
use Rattle.segments.specs.Linking.{count_below}
use Rattle.trace_index.specs.Links.{matches as has_place, trace_of}
use Rattle.trace_index.proofs.key_list.KeyList.place_at.Given as goal

abbrev pub invariant-loop : goal.invariant-loop
invariant-loop l = record {
  within : l.place < length l.self.rows.now.0;
  passing : has_place (trace_of l.self.rows.now.0) l.self.key l.place ≡ true;
  left : count_below (has_place (trace_of l.self.rows.now.0) l.self.key) l.place + l.counter ≡ l.count + l.number;
}
