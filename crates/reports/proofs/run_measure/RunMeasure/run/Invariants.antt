use Rattle.std.proofs.Common.{◌≡◌, ◌*◌, ◌-◌, ◌≤◌, length}
use Rattle.reports.specs.Decades.{IsDecade}
use Rattle.reports.specs.Text.{run_text}
use Rattle.reports.proofs.run_measure.RunMeasure.run.Given as goal

abbrev pub invariant-loop-next : goal.invariant-loop-next
invariant-loop-next l = record {
  decade : IsDecade l.decade;
  first : l.first ≤ l.next;
  end : l.next ≤ l.end;
  bytes : l.bytes ≡ length (run_text l.first (l.next - l.first));
  few : l.bytes ≤ 21 * (l.next - l.first);
}

abbrev pub decreases-loop-next : goal.decreases-loop-next
decreases-loop-next l = l.end - l.next
