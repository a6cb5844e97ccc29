use Rattle.std.proofs.Common.{get_or, None, arith}
use Rattle.std.proofs.lemmas.Option.{slice_get-get_or}
use Rattle.sp_closure.specs.declared.timelines.Timestamp.{Timestamp}
use Rattle.sp_closure.proofs.timelines.Timestamps.move_all.Goals as goal

pub move_past-requires-clause-by : goal.move_past-requires-clause-by
move_past-requires-clause-by c =
    let stamps = c.loop-i.stamps in
    let i = c.loop-i.i in
    let none : Timestamp = record { prefix = record { slot = 0; count = 0 }; clock = None } in
    c.loop-i.invariant.held i (get_or stamps i none) (slice_get-get_or stamps i none (omega (arith, c.loop-i-test.true, c.requires.room, c.loop-i.invariant.stamps)))
