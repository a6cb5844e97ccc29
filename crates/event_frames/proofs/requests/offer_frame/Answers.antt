use Rattle.std.proofs.Common.{ℕ, List, [], ◌∷◌, get_or, ap}
use Rattle.trace_model.specs.Protocol.Frames.{frame}
use Rattle.event_frames.proofs.requests.offer_frame.Goals as goal

pub returns : goal.returns
unfolding frame
returns c =
    ap (λ (b : List ℕ). 0 ∷ 9 ∷ get_or b 0 0 ∷ get_or b 1 0 ∷ get_or b 2 0 ∷ get_or b 3 0 ∷ get_or b 4 0 ∷ get_or b 5 0 ∷ get_or b 6 0 ∷ get_or b 7 0 ∷ get_or b 8 0 ∷ [])
    c.event_bytes.ensures
