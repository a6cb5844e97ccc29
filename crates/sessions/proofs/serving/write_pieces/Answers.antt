use Rattle.std.proofs.Common.{◌++◌, Result, Ok, Err}
use Rattle.std.specs.Result.{OnErr}
use Rattle.sessions.proofs.Puts.{part_of_first, part_of_second}
use Rattle.sessions.proofs.serving.write_pieces.Goals as goal

after_err : {T E A B : Type 0} (r : Result T E) → (A → B) → OnErr r A → OnErr r B
after_err (Ok _) f a = tt
after_err (Err _) f a = f a

on_err : {T E A : Type 0} (r : Result T E) → A → OnErr r A
on_err (Ok _) a = tt
on_err (Err _) a = a

pub returns-in_err-write_both-clause-err : goal.returns-in_err-write_both-clause-err
returns-in_err-write_both-clause-err g c =
    let part = c.in_err-write_both.ensures.err in
    on_err c.from_residual.result (part_of_first (g.K.Sink.written c.args.sink.now) (g.K.Sink.written c.write_both.new.sink) (c.args.head.now ++ c.args.first_line.now) c.args.rows part.0 part.1)

pub returns-clause-err : goal.returns-clause-err
returns-clause-err g c =
    after_err c.write_rows.result (λ part.
    part_of_second (g.K.Sink.written c.args.sink.now) (g.K.Sink.written c.write_both.new.sink) (g.K.Sink.written c.write_rows.new.sink) (c.args.head.now ++ c.args.first_line.now) c.args.rows part.0 c.in_ok-write_both.ensures.ok part.1)
    c.write_rows.ensures.err
