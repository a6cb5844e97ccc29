use Rattle.std.proofs.Common.{take}
use Rattle.lock_graph.specs.Lists.{lock_numbers, AreListedWith}
use Rattle.lock_graph.proofs.lists.add.Given as goal

abbrev pub invariant-loop-index : goal.invariant-loop-index
invariant-loop-index l = AreListedWith l.lists (take l.index l.locks) l.number (lock_numbers l.fn.lists)
