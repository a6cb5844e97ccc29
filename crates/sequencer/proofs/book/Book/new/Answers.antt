use Rattle.std.proofs.Common.{arith}
use Rattle.sequencer.proofs.KeptOn.{kept_opening}
use Rattle.sequencer.proofs.book.Book.new.Goals as goal

pub invariant_of-result : goal.invariant_of-result
invariant_of-result c =
    let most = c.if-max_events-gt-MAX_EVENTS.false in
    rw (c.new.ensures, c.new-2.ensures.items) (kept_opening c.args.max_events (omega (arith, most)))
