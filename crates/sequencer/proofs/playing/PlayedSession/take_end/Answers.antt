use Rattle.std.proofs.Common.{refl, sym, ◌∙◌}
use Rattle.std.proofs.lemmas.Result.{on_ok_weaker}
use Rattle.sequencer.specs.declared.input.Input.TheVariants.{End}
use Rattle.sequencer.proofs.Taken.{taken_closed, end_taken}
use Rattle.sequencer.proofs.playing.PlayedSession.take_end.Goals as goal

pub returns-then-is_closed : goal.returns-then-is_closed
returns-then-is_closed c = λ s start past a. taken_closed s start past (End s) c.args.self.now c.args.book.now.state refl (sym c.is_closed.ensures ∙ c.if-is_closed.true) a

pub returns : goal.returns
returns c = on_ok_weaker c.drain.result (λ d s start past a. end_taken s start past c.args.self.now c.finish.new.self c.args.book.now.state c.drain.new.book.state (record { reader = c.drain.new.reader; sent = c.drain.new.sent }) (sym c.is_closed.ensures ∙ c.if-is_closed.false) c.finish.ensures.ended c.finish.ensures.grammar d a) c.drain.ensures
