use Rattle.std.proofs.Common.{refl, ap, ◌∙◌}
use Rattle.std.proofs.lemmas.Result.{IfOk-from_err}
use Rattle.wellformed.specs.Gate.{GateView}
use Rattle.sequencer.specs.Recording.{HaveEventRoom}
use Rattle.sequencer.proofs.Recorded.{recorded_ready, recorded_same}
use Rattle.sequencer.proofs.recorder.Recorder.reserve.Goals as goal

pub invariant_of-self : goal.invariant_of-self
invariant_of-self c =
    let b = c.self.inside in
    recorded_same b.limit b.admission c.reserve.new.self b.index b.index b.tables b.tables b.ready c.in_err-reserve.ensures.follow refl (λ s follow. follow) c.self.invariant

pub returns-in_err-reserve : goal.returns-in_err-reserve
returns-in_err-reserve c = record {
  events = (ap (λ (a : GateView). a.events) c.self.view_is, ap (λ (a : GateView). a.limit) c.self.view_is);
  ok = IfOk-from_err c.from_residual.result _ c.from_residual.ensures.0;
}

pub invariant_of-self-in_err-reserve-2 : goal.invariant_of-self-in_err-reserve-2
invariant_of-self-in_err-reserve-2 c =
    let b = c.self.inside in
    recorded_same b.limit b.admission c.reserve.new.self b.index c.reserve-2.new.self b.tables b.tables b.ready c.in_ok-reserve.ensures.follow c.in_err-reserve-2.ensures.events (λ s follow. follow) c.self.invariant

pub returns-in_err-reserve-2 : goal.returns-in_err-reserve-2
returns-in_err-reserve-2 c = record {
  events = (c.in_err-reserve-2.ensures.events ∙ ap (λ (a : GateView). a.events) c.self.view_is, ap (λ (a : GateView). a.limit) c.self.view_is);
  ok = IfOk-from_err c.from_residual-in_err-reserve-2.result _ c.from_residual-in_err-reserve-2.ensures.0;
}

pub invariant_of-self-in_err-reserve-3 : goal.invariant_of-self-in_err-reserve-3
invariant_of-self-in_err-reserve-3 c =
    let b = c.self.inside in
    recorded_same b.limit b.admission c.reserve.new.self b.index c.reserve-2.new.self b.tables c.reserve-3.new.self b.ready c.in_ok-reserve.ensures.follow c.in_ok-reserve-2.ensures.events
    c.in_err-reserve-3.ensures.follow c.self.invariant

pub returns-in_err-reserve-3 : goal.returns-in_err-reserve-3
returns-in_err-reserve-3 c = record {
  events = (c.in_ok-reserve-2.ensures.events ∙ ap (λ (a : GateView). a.events) c.self.view_is, ap (λ (a : GateView). a.limit) c.self.view_is);
  ok = IfOk-from_err c.from_residual-in_err-reserve-3.result _ c.from_residual-in_err-reserve-3.ensures.0;
}

pub invariant_of-self-2 : goal.invariant_of-self-2
invariant_of-self-2 c =
    let b = c.self.inside in
    let room : HaveEventRoom c.reserve.new.self c.reserve-2.new.self c.reserve-3.new.self c.args.event.now =
    record { in_admission = c.in_ok-reserve.ensures.ok; in_index = c.in_ok-reserve-2.ensures.ok; in_tables = c.in_ok-reserve-3.ensures.ok } in
    recorded_ready b.limit c.reserve.new.self c.reserve-2.new.self c.reserve-3.new.self c.args.event.now room
    (recorded_same b.limit b.admission c.reserve.new.self b.index c.reserve-2.new.self b.tables c.reserve-3.new.self b.ready c.in_ok-reserve.ensures.follow c.in_ok-reserve-2.ensures.events
    c.in_ok-reserve-3.ensures.follow c.self.invariant)

pub returns : goal.returns
returns c = record {
  events = (c.in_ok-reserve-2.ensures.events ∙ ap (λ (a : GateView). a.events) c.self.view_is, ap (λ (a : GateView). a.limit) c.self.view_is);
  ok = refl;
}
