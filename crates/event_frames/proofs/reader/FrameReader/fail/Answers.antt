use Rattle.std.proofs.Common.{Some, ap, ◌∙◌}
use Rattle.event_frames.proofs.reader.FrameReader.fail.Goals as goal

pub returns : goal.returns
returns c =
    let cleared = c.clear.ensures in
    let ended = ap (λ v. v.ended) c.self.view_is in
    let capacity = cleared.capacity ∙ ap (λ v. v.capacity) c.self.view_is in
    λ i. record { rest = cleared.items i; ended = ended i; returned = Some c.args.fault; buffered = cleared.len i; capacity = capacity i }
