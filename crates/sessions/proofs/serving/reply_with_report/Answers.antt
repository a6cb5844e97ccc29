use Rattle.std.proofs.Common.{ℕ, [], ◌++◌, take, sym, subst, ◌∙◌, append_assoc}
use Rattle.std.specs.Io.KnownBytes.{Appends}
use Rattle.sessions.proofs.Puts.{put_kept, put_none}
use Rattle.sessions.proofs.serving.reply_with_report.Goals as goal

pub returns-in_default : goal.returns-in_default
returns-in_default g c =
    let before = g.K.Sink.written c.args.sink.now in
    record { ok = tt; err = (0, put_kept before before (g.K.Sink.written c.send.new.self) [] (put_none before) c.send.ensures.kept); same = tt; counted = tt }

pub returns-in-Ok-write_pieces : goal.returns-in-Ok-write_pieces
returns-in-Ok-write_pieces g c =
    let report = c.args.report in
    let whole = (λ i. (c.as_slice.ensures.value i ++ c.as_slice-2.ensures.value i) ++ report.rows) ∙ append_assoc c.in-Ok.head.items report.first_line.items report.rows ∙ c.in-Ok.ensures (report.first_line.items ++ report.rows) (sym report.measured) in
    record {
      ok = subst (Appends (g.K.Sink.written c.args.sink.now) (g.K.Sink.written c.write_pieces.new.sink)) whole c.in-Ok-write_pieces.ensures.ok;
      err = tt;
      same = c.in-Ok-write_pieces.ensures.same;
      counted = tt;
    }

pub returns : goal.returns
returns g c =
    let report = c.args.report in
    let whole = (λ i. (c.as_slice.ensures.value i ++ c.as_slice-2.ensures.value i) ++ report.rows) ∙ append_assoc c.in-Ok.head.items report.first_line.items report.rows ∙ c.in-Ok.ensures (report.first_line.items ++ report.rows) (sym report.measured) in
    record {
      ok = tt;
      err = subst (λ xs. (n : ℕ) × Appends (g.K.Sink.written c.args.sink.now) (g.K.Sink.written c.write_pieces.new.sink) (take n xs)) whole c.in-Err.ensures.err;
      same = tt;
      counted = c.in-Err.ensures.failed;
    }
