use Rattle.std.proofs.lemmas.Result.{IfOk-from_err}
use Rattle.event_frames.proofs.replies.encode_reply.Goals as goal

pub returns-in_err-push_reply : goal.returns-in_err-push_reply
returns-in_err-push_reply c = IfOk-from_err c.from_residual.result _ c.from_residual.ensures.0
