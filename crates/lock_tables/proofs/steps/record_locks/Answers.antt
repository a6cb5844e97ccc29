use Rattle.std.proofs.Common.{sym, subst}
use Rattle.held_sets.specs.Tables.{IsAfter}
use Rattle.lock_tables.proofs.OneFurther.{keeps}
use Rattle.lock_tables.proofs.steps.record_locks.Goals as goal

pub record-requires-clause-nested : goal.record-requires-clause-nested
record-requires-clause-nested c = (c.requires.fits c.in-Acquire.lock c.in-Acquire.is).0

pub record-requires-clause-room : goal.record-requires-clause-room
record-requires-clause-room c = (c.requires.fits c.in-Acquire.lock c.in-Acquire.is).1

pub returns-in-Acquire : goal.returns-in-Acquire
returns-in-Acquire c s f =
    (c.held_follows.ensures.grow c.args.held.now c.record.new.self s c.args.event.now f).0
    (subst (λ o. IsAfter c.args.held.now c.args.event.now.thread o c.record.new.self) (sym c.in-Acquire.is) c.record.ensures)

pub returns-in-Release : goal.returns-in-Release
returns-in-Release c s f =
    (c.held_follows.ensures.grow c.args.held.now c.release.new.self s c.args.event.now f).0
    (subst (λ o. IsAfter c.args.held.now c.args.event.now.thread o c.release.new.self) (sym c.in-Release.is) c.release.ensures)

pub returns-in_default : goal.returns-in_default
returns-in_default c s f = (c.held_follows.ensures.grow c.args.held.now c.args.held.now s c.args.event.now f).1 (keeps c.args.event.now.op c.in_default.not-Acquire c.in_default.not-Release)
