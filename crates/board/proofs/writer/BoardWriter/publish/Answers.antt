use Rattle.std.proofs.Common.{◌≡◌, ap, arith, length, length-append, ◌∙◌}
use Rattle.board.specs.Fits.{WriterView}
use Rattle.board.proofs.Lengths.{legal_is_short}
use Rattle.board.proofs.writer.BoardWriter.publish.Goals as goal

pub add-requires-clause-room : goal.add-requires-clause-room
add-requires-clause-room g c =
    let now = c.args.self.now in
    let same : c.again-prefix.result ≡ now.published = c.again-prefix.ensures.same ∙ (c.self.invariant.1 ∙ ap (λ (w : WriterView). w.published) c.self.view_is) in
    omega (arith, legal_is_short _ c.requires.legal, length-append now.published now.waiting, ap length same)
