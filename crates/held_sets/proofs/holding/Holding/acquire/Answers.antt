use Rattle.std.proofs.Common.{◌+◌, arith}
use Rattle.held_sets.proofs.Holdings.{acquired}
use Rattle.held_sets.proofs.holding.Holding.acquire.Goals as goal

pub set_depth-requires : goal.set_depth-requires
set_depth-requires c = record { room = λ some. c.requires.room }

pub returns : goal.returns
returns c = acquired c.args.self.now c.set_depth.new.self c.args.lock (c.depth-depth.result + 1) (omega (arith, c.depth-depth.ensures)) c.set_depth.ensures
