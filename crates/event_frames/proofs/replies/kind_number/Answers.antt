use Rattle.std.proofs.Common.{get_or, sym, ap}
use Rattle.trace_model.specs.Protocol.Replies.{reply_body}
use Rattle.event_frames.proofs.replies.kind_number.Goals as goal

pub returns-in-Placed : goal.returns-in-Placed
returns-in-Placed c = ap (λ r. get_or (reply_body r) 0 0) (sym c.in-Placed.is)
