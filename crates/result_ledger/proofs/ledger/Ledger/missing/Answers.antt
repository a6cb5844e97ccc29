use Rattle.std.proofs.Common.{ℕ, map, subst, arith}
use Rattle.result_ledger.specs.Tasks.{IsMissing, IsLeastMissing}
use Rattle.result_ledger.proofs.TaskList.{least_missing, none_missing}
use Rattle.result_ledger.specs.Inside.{current_rows}
use Rattle.result_ledger.proofs.ledger.Ledger.missing.Goals as goal

pub returns-then-self-len : goal.returns-then-self-len
returns-then-self-len c = subst (λ ts. IsLeastMissing ts c.self.inside.missing) c.self.view_is (least_missing c.self.inside.marks.items (current_rows c.self.inside.rows.items c.self.inside.shared) c.self.inside.delivered c.self.inside.missing c.self.invariant.order (omega arith))

pub returns-else-self-len : goal.returns-else-self-len
returns-else-self-len c = subst (λ ts. (task : ℕ) → IsMissing ts task → ⊥) c.self.view_is (none_missing c.self.inside.marks.items (current_rows c.self.inside.rows.items c.self.inside.shared) c.self.inside.delivered c.self.inside.missing c.self.invariant.order (omega arith))
