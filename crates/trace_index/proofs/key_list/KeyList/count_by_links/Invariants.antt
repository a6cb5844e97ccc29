use Rattle.std.proofs.Common.{◌≡◌, ◌<◌, length, true, ℕ, ◌+◌, suc, Some}
use Rattle.std.specs.Option.{option_map_or}
use Rattle.segments.specs.Linking.{count_below}
use Rattle.trace_index.specs.Links.{matches as has_place, trace_of}
use Rattle.trace_index.proofs.KeyLists.{up_to}
use Rattle.trace_index.proofs.key_list.KeyList.count_by_links.Given as goal

abbrev pub invariant-loop-next : goal.invariant-loop-next
invariant-loop-next l = record {
  there : (p : ℕ) → l.next ≡ Some p → (p < length l.self.rows.now.0) × (has_place (trace_of l.self.rows.now.0) l.self.key p ≡ true);
  left : l.count + up_to (has_place (trace_of l.self.rows.now.0) l.self.key) l.next
      ≡ count_below (has_place (trace_of l.self.rows.now.0) l.self.key) (length l.self.rows.now.0);
}

abbrev pub decreases-loop-next : goal.decreases-loop-next
decreases-loop-next l = option_map_or (λ p. suc p) l.next 0
