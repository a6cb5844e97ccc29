use Rattle.std.proofs.Common.{◌++◌, sym, subst}
use Rattle.trace_model.specs.Theory.Trace.{Trace}
use Rattle.wellformed.specs.FirstUnlawful.{IsFirstUnlawful}
use Rattle.wellformed.specs.Tables.{FollowEvents}
use Rattle.event_files.specs.EventFile.{pieces_at, AreEventsIn}
use Rattle.commands.proofs.AdmittedBlocks.{all_kept, unlawful_in_block}
use Rattle.commands.proofs.admitted_blocks.read_block.Goals as goal

pub returns-in-None-clause-block : goal.returns-in-None-clause-block
returns-in-None-clause-block c = λ s follow.
    let kept = c.in_ok-events.events.items in
    let (events, are, is) = c.in_ok-events.ensures.events in
    let admits = rw c.in-None.is at c.in_ok-admit_all.ensures in
    let lawful = subst (λ (b : Trace). FollowEvents c.admit_all.new.self (s ++ b)) c.deref.ensures.value (admits s follow) in
    (subst (λ (e : Trace). AreEventsIn e (pieces_at 10 c.args.text.now)) (sym (all_kept s kept events is lawful.well_formed)) are, lawful)

pub returns-in-Some-clause-block : goal.returns-in-Some-clause-block
returns-in-Some-clause-block c = λ s follow.
    let kept = c.in_ok-events.events.items in
    let first = c.in-Some.first in
    let (events, are, is) = c.in_ok-events.ensures.events in
    let admits = rw c.in-Some.is at c.in_ok-admit_all.ensures in
    let unlawful = subst (λ (b : Trace). IsFirstUnlawful (s ++ b) first) c.deref.ensures.value (admits s follow) in
    (events, are, unlawful_in_block s kept events first is unlawful)
