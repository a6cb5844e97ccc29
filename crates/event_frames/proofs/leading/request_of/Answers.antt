use Rattle.std.proofs.Common.{arith}
use Rattle.std.proofs.lemmas.Grind.{common_steps}
use Rattle.trace_model.specs.Protocol.Frames.{request_of}
use Rattle.event_frames.proofs.leading.request_of.Goals as goal

pub returns-in_default : goal.returns-in_default
unfolding request_of
returns-in_default c = grind (arith, common_steps)
