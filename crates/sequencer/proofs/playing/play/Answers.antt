use Rattle.std.proofs.Common.{refl, sym, subst}
use Rattle.std.proofs.lemmas.Bool.{false≢true}
use Rattle.trace_model.specs.Protocol.Machine.{State}
use Rattle.trace_model.specs.Theory.Rows.{AreRows}
use Rattle.trace_model.specs.Protocol.Bounds.{StateFits}
use Rattle.trace_model.proofs.Protocol.Bounds.{opening_fits}
use Rattle.sequencer.specs.Exact.{IsAlwaysExact}
use Rattle.sequencer.specs.Played.{AreSent}
use Rattle.sequencer.specs.Sessions.{actions}
use Rattle.sequencer.proofs.Exact.{opened_tells}
use Rattle.sequencer.proofs.playing.play.Goals as goal

pub returns-in-Ok-play_over-clause-sent : goal.returns-in-Ok-play_over-clause-sent
returns-in-Ok-play_over-clause-sent c =
    subst (λ (s : State). AreSent c.in-Ok-play_over.played.sent s c.args.inputs.items) c.in-Ok.ensures.made c.in-Ok-play_over.ensures.sent

pub returns-in-Ok-play_over-clause-exact : goal.returns-in-Ok-play_over-clause-exact
returns-in-Ok-play_over-clause-exact c =
    let made = c.in-Ok.ensures.made in
    let fits = subst (StateFits AreRows) (sym made) (opening_fits AreRows c.args.max_events (c.in-Ok.ensures.limit.0 refl).1) in
    subst (λ (s : State). IsAlwaysExact s (actions c.args.inputs.items)) made (c.in-Ok-play_over.ensures.exact fits)

pub returns-in-Ok-play_over-clause-deadlocks : goal.returns-in-Ok-play_over-clause-deadlocks
returns-in-Ok-play_over-clause-deadlocks c =
    opened_tells c.in-Ok.book.state c.args.max_events (actions c.args.inputs.items) c.in-Ok.ensures.made (c.in-Ok.ensures.limit.0 refl).1 c.in-Ok-play_over.ensures.exact

pub returns-in_default : goal.returns-in_default
returns-in_default c = record {
  sent = tt;
  deliveries = tt;
  book = tt;
  exact = tt;
  deadlocks = tt;
  limit = tt;
  refused = λ allowed. absurd (false≢true (c.in_default.ensures.limit.1 allowed));
}

pub returns-in-Err : goal.returns-in-Err
returns-in-Err c = record {
  sent = tt;
  deliveries = tt;
  book = tt;
  exact = tt;
  deadlocks = tt;
  limit = tt;
  refused = c.in-Ok.ensures.limit.0 refl;
}
