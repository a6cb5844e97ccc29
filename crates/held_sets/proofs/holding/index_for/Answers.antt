use Rattle.std.proofs.Common.{arith}
use Rattle.std.proofs.lemmas.Option.{slice_get-get_or}
use Rattle.held_sets.proofs.Holdings.{index_there, index_most}
use Rattle.held_sets.proofs.holding.index_for.Goals as goal

pub returns-then-lock-held : goal.returns-then-lock-held
returns-then-lock-held c =
    (index_there c.args.lock c.args.locks.now c.loop-index.index _ (slice_get-get_or _ _ (record { lock = 0; depth = 0 }) c.loop-index-test.true) c.loop-index.invariant).0 c.if-lock-held.true

pub loop-index-preserved : goal.loop-index-preserved
loop-index-preserved c =
    let next = (index_there c.args.lock c.args.locks.now c.loop-index.index _ (slice_get-get_or _ _ (record { lock = 0; depth = 0 }) c.loop-index-test.true) c.loop-index.invariant).1 (omega (arith, c.if-lock-held.false)) in
    omega arith

pub returns : goal.returns
returns c = omega (arith, c.loop-index-test.false, c.loop-index.invariant, index_most c.args.lock c.args.locks.now)
