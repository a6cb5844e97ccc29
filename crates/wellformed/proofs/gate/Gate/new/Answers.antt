use Rattle.std.proofs.Common.{arith}
use Rattle.wellformed.proofs.gate.Gate.new.Goals as goal

pub invariant_of-result : goal.invariant_of-result
invariant_of-result c = rw c.new.ensures.items (record {
  within = omega arith;
  small = c.requires;
  follow = c.new-2.ensures;
  entries = λ e h. absurd (cc h);
  room = λ e h. absurd (cc h);
})
