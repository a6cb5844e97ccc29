use Rattle.std.proofs.Common.{length, ap, ◌∙◌, arith}
use Rattle.event_frames.proofs.ReadFrames.{moved_rest}
use Rattle.event_frames.proofs.reader.FrameReader.compact.Goals as goal

pub returns-then-start-gt0 : goal.returns-then-start-gt0
returns-then-start-gt0 c =
    let bytes = c.self.inside.bytes in
    let start = c.self.inside.start in
    let seen = c.self.view_is in
    let rest = moved_rest bytes.items c.copy_within.new.self.items c.truncate.new.self.items start c.len-end.result (omega (arith, c.self.invariant.0, c.len-end.ensures))
    (omega (arith, c.len-end.ensures, bytes.ok.0)) c.copy_within.ensures.items c.truncate.ensures.items ∙ ap (λ v. v.rest) seen in
    let ended = ap (λ v. v.ended) seen in
    let returned = ap (λ v. v.returned) seen in
    let buffered = c.truncate.new.self.ok.0 ∙ ap length rest in
    let capacity = c.truncate.ensures.capacity ∙ c.copy_within.ensures.capacity ∙ ap (λ v. v.capacity) seen in
    λ i. record { rest = rest i; ended = ended i; returned = returned i; buffered = buffered i; capacity = capacity i }
