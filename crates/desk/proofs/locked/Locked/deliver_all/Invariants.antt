use Rattle.std.proofs.Common.{◌≡◌, ◌+◌, ◌≤◌, ◌++◌, length, vec_len, vec_capacity}
use Rattle.desk.specs.Published.{After}
use Rattle.desk.specs.Together.{AreOutcomes, taken_steps}
use Rattle.desk.proofs.locked.Locked.deliver_all.Given as goal

-- the outcomes of the findings so far; memory is reserved for the outcomes of the others
abbrev pub invariant-loop-finding : goal.invariant-loop-finding
invariant-loop-finding g l = record {
  are : AreOutcomes g.N.HistoryId.limit l.fn.self.published l.yielded l.outcomes.items;
  run : l.self.published ≡ l.fn.self.published ++ taken_steps l.yielded l.outcomes.items;
  after : After g.N.HistoryId.limit l.self.published l.self.state;
  rest : l.yielded ++ l.finding-iterator.rest.items ≡ l.fn.findings.items;
  room : vec_len l.outcomes + length l.finding-iterator.rest.items ≤ vec_capacity l.outcomes;
}
