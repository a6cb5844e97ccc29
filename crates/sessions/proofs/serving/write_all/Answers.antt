use Rattle.std.proofs.Common.{◌<◌, refl, subst, take, arith}
use Rattle.std.specs.Io.KnownBytes.{Appends}
use Rattle.std.proofs.lemmas.List.{take_all}
use Rattle.std.proofs.lemmas.Result.{err_from_is_err_and}
use Rattle.sessions.proofs.Puts.{put_kept, put_none, put_on}
use Rattle.sessions.proofs.serving.write_all.Goals as goal

pub loop-at-preserved : goal.loop-at-preserved
loop-at-preserved g c = put_on (g.K.Sink.written c.args.sink.now) (g.K.Sink.written c.loop-at.sink) (g.K.Sink.written c.write.new.self) (g.K.Sink.failures c.args.sink.now) (g.K.Sink.failures c.loop-at.sink) (g.K.Sink.failures c.write.new.self) c.args.bytes.now c.loop-at.at c.in_ok-at.field-0 c.loop-at.invariant c.in_ok-at.ensures.count c.in_ok-at.ensures.bytes c.in_ok-at.ensures.ok

pub loop-at-init : goal.loop-at-init
loop-at-init g c = record { within = omega arith; put = put_none (g.K.Sink.written c.args.sink.now); same = refl }

pub returns : goal.returns
returns g c =
    let put = c.loop-at.invariant in
    record {
      ok = subst (Appends (g.K.Sink.written c.args.sink.now) (g.K.Sink.written c.loop-at.sink)) (take_all c.loop-at.at c.args.bytes.now c.loop-at-test.false) put.put;
      same = put.same;
      failed = tt;
      err = tt;
    }

pub returns-in_err-at : goal.returns-in_err-at
returns-in_err-at g c =
    let put = c.loop-at.invariant in
    let p = err_from_is_err_and c.from_residual.result c.from_residual.ensures.1 in
    rw p.1 (record {
      ok = tt;
      same = tt;
      failed = subst (λ n. n < g.K.Sink.failures c.write.new.self) put.same c.in_err-at.ensures.failed;
      err = (c.loop-at.at, put_kept (g.K.Sink.written c.args.sink.now) (g.K.Sink.written c.loop-at.sink) (g.K.Sink.written c.write.new.self) (take c.loop-at.at c.args.bytes.now) put.put c.in_err-at.ensures.err);
    })
