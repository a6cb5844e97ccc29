use Rattle.std.proofs.Common.{ℕ, [], ◌++◌, take, subst, ◌∙◌}
use Rattle.std.specs.Io.KnownBytes.{Appends}
use Rattle.sessions.proofs.Puts.{put_kept, put_none}
use Rattle.sessions.proofs.serving.reply_with_whole.Goals as goal

pub returns-in_default : goal.returns-in_default
returns-in_default g c =
    let before = g.K.Sink.written c.args.sink.now in
    record { ok = tt; err = (0, put_kept before before (g.K.Sink.written c.send.new.self) [] (put_none before) c.send.ensures.kept); same = tt; counted = tt }

pub returns-in-Ok-write_both : goal.returns-in-Ok-write_both
returns-in-Ok-write_both g c = record {
  ok = subst (Appends (g.K.Sink.written c.args.sink.now) (g.K.Sink.written c.write_both.new.sink)) ((λ i. c.deref.ensures.value i ++ c.frame_text.ensures i) ∙ c.in-Ok.ensures) c.in-Ok-write_both.ensures.ok;
  err = tt;
  same = c.in-Ok-write_both.ensures.same;
  counted = tt;
}

pub returns : goal.returns
returns g c = record {
  ok = tt;
  err = subst (λ xs. (n : ℕ) × Appends (g.K.Sink.written c.args.sink.now) (g.K.Sink.written c.write_both.new.sink) (take n xs)) ((λ i. c.deref.ensures.value i ++ c.frame_text.ensures i) ∙ c.in-Ok.ensures) c.in-Err.ensures.err;
  same = tt;
  counted = c.in-Err.ensures.failed;
}
