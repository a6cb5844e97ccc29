use Rattle.std.proofs.Common.{◌<◌, [], refl, subst}
use Rattle.std.proofs.lemmas.Result.{err_from_is_err_and}
use Rattle.sessions.proofs.Puts.{poured_all, poured_on, poured_part, put_none}
use Rattle.sessions.proofs.serving.write_rows.Goals as goal

pub loop-init : goal.loop-init
loop-init g c = (tt, tt, record { done = []; put = put_none (g.K.Sink.written c.args.sink.now); whole_is = refl; same = refl })

pub loop-preserved : goal.loop-preserved
loop-preserved g c = (
  tt,
  tt,
  poured_on (g.K.Sink.written c.args.sink.now) (g.K.Sink.written c.loop.sink) (g.K.Sink.written c.write_all.new.sink) (g.K.Sink.failures c.args.sink.now) (g.K.Sink.failures c.loop.sink) c.args.rows c.loop.left c.next-in-loop.new.piece.text.items c.next-in-loop.new.self c.bytes.result.now
      c.loop.invariant.2 c.next-in-loop.ensures.text c.bytes.ensures (g.K.Sink.failures c.write_all.new.sink) c.in_ok-write_all.ensures.ok c.in_ok-write_all.ensures.same,
)

pub returns-in_err-write_all : goal.returns-in_err-write_all
returns-in_err-write_all g c =
    let p = err_from_is_err_and c.from_residual.result c.from_residual.ensures.1 in
    let poured = c.loop.invariant.2 in
    rw p.1 (record {
      ok = tt;
      same = tt;
      failed = subst (λ n. n < g.K.Sink.failures c.write_all.new.sink) poured.same c.in_err-write_all.ensures.failed;
      err = poured_part (g.K.Sink.written c.args.sink.now) (g.K.Sink.written c.loop.sink) (g.K.Sink.written c.write_all.new.sink) (g.K.Sink.failures c.args.sink.now) (g.K.Sink.failures c.loop.sink) c.args.rows c.loop.left c.next-in-loop.new.piece.text.items c.next-in-loop.new.self c.bytes.result.now
          poured c.next-in-loop.ensures.text c.bytes.ensures c.in_err-write_all.ensures.err;
    })
