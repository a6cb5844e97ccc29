use Rattle.std.proofs.Common.{sym, ◌∙◌}
use Rattle.std.proofs.lemmas.Result.{on_ok_weaker}
use Rattle.sequencer.proofs.Taken.{taken_closed, piece_taken}
use Rattle.sequencer.proofs.playing.PlayedSession.take_piece.Goals as goal
use Rattle.sequencer.specs.declared.input.Input.TheVariants.{Piece}
use Rattle.std.proofs.Common.{refl}

pub returns-then-is_closed : goal.returns-then-is_closed
returns-then-is_closed c = λ s start past bytes same a. taken_closed s start past (Piece s bytes) c.args.self.now c.args.book.now.state refl (sym c.is_closed.ensures ∙ c.if-is_closed.true) a

pub returns : goal.returns
returns c =
    let f = c.in_ok-feed.ensures in
    on_ok_weaker c.drain.result (λ d s start past bytes same a. piece_taken s start past c.args.piece.now bytes c.args.self.now c.feed.new.self c.args.book.now.state c.drain.new.book.state (record { reader = c.drain.new.reader; sent = c.drain.new.sent }) same (sym c.is_closed.ensures ∙ c.if-is_closed.false) f.fed f.grammar d a) c.drain.ensures
