use Rattle.std.proofs.Common.{length, ap, arith}
use Rattle.explain.proofs.refute.place_after.Goals as goal

pub overflow_add-entry : goal.overflow_add-entry
overflow_add-entry c = omega (arith, c.requires.entry, ap length c.places-places.ensures, c.len-count.ensures.length, c.len-count.type_inv)
