-- A request frame is not empty.
use Rattle.std.proofs.Common.{◌≡◌, ℕ, ◌<◌, List, ◌++◌, length, sym, subst, arith, length-append}
use Rattle.trace_model.specs.declared.messages.session.Request.{Request}
use Rattle.trace_model.specs.Protocol.Frames.{frame}

pub frame_positive : (text : List ℕ) (request : Request) (rest : List ℕ) → text ≡ frame request ++ rest → length rest < length text
unfolding frame
frame_positive text request rest e = subst (λ (t : List ℕ). length rest < length t) (sym e) (omega (arith, length-append (frame request) rest))
