use Rattle.std.proofs.Common.{sym, subst}
use Rattle.std.proofs.lemmas.Result.{IfOk-from_err}
use Rattle.held_sets.specs.Tables.{IsAfter}
use Rattle.lock_tables.proofs.OneFurther.{keeps}
use Rattle.lock_tables.proofs.steps.append_locks.Goals as goal

pub acquire-requires-clause-nested : goal.acquire-requires-clause-nested
acquire-requires-clause-nested c = (c.requires c.in-Acquire.lock c.in-Acquire.is).0

pub acquire-requires-clause-room : goal.acquire-requires-clause-room
acquire-requires-clause-room c = (c.requires c.in-Acquire.lock c.in-Acquire.is).1

pub returns-in_ok-acquire-in-Acquire : goal.returns-in_ok-acquire-in-Acquire
returns-in_ok-acquire-in-Acquire c s f =
    (c.held_follows.ensures.grow c.args.held.now c.acquire.new.self s c.args.event.now f).0
    (subst (λ o. IsAfter c.args.held.now c.args.event.now.thread o c.acquire.new.self) (sym c.in-Acquire.is) c.in_ok-acquire-in-Acquire.ensures.ok)

pub returns-in-Release : goal.returns-in-Release
returns-in-Release c s f =
    (c.held_follows.ensures.grow c.args.held.now c.release.new.self s c.args.event.now f).0
    (subst (λ o. IsAfter c.args.held.now c.args.event.now.thread o c.release.new.self) (sym c.in-Release.is) c.release.ensures)

pub returns-in_default : goal.returns-in_default
returns-in_default c s f = (c.held_follows.ensures.grow c.args.held.now c.args.held.now s c.args.event.now f).1 (keeps c.args.event.now.op c.in_default.not-Acquire c.in_default.not-Release)

pub returns-in_err-acquire-in-Acquire : goal.returns-in_err-acquire-in-Acquire
returns-in_err-acquire-in-Acquire c = IfOk-from_err c.from_residual.result _ c.from_residual.ensures.0
