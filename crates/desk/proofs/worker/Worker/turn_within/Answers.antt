use Rattle.std.proofs.Common.{◌≡◌, ◌⊎◌, inl, inr, Some, refl, subst}
use Rattle.trace_model.specs.declared.refusal.Refusal.{Refusal}
use Rattle.desk.specs.declared.worker.Turn.TheVariants as turns
use Rattle.desk.specs.declared.worker.TurnFailure.TheVariants.{TooManyCycles}
use Rattle.desk.specs.Turns.{Chose, ChoseInRound, GivesUpOn, IsIdle, IsRefusedTurn, IsTooMuch, LastStepDelivers, PausesOn, WorkerView}
use Rattle.desk.proofs.Turns.{chosen_by, given_up_since, known_since}
use Rattle.desk.proofs.worker.Worker.turn_within.Goals as goal

pub returns-in-Some-clause-later : goal.returns-in-Some-clause-later
returns-in-Some-clause-later g c = known_since _ _ _ _ c.self.view_is c.choose-chosen.ensures.later c.work_on.ensures.later

pub returns-in-Some-clause-delivered : goal.returns-in-Some-clause-delivered
returns-in-Some-clause-delivered g c =
    let limit = g.N.HistoryId.limit in
    let one = c.in-Some.unsettled in
    let passed = c.choose-chosen.new.passed_over in
    let new = c.work_on.new.self in
    let chosen = chosen_by c.self.inside.given_up c.self.inside.passed_over c.self.inside.reader.known c.choose-chosen.new.reader.known new.known passed
    c.in-Ok.found one c.in-Some.is c.work_on.ensures.later c.in-Ok.ensures.chosen in
    subst (λ (w : WorkerView). c.work_on.result ≡ turns.Delivered → Chose w new (LastStepDelivers limit w.paused new.known)) c.self.view_is
    (λ e. (one, passed, chosen, c.work_on.ensures.delivered e))

pub returns-in-Some-clause-paused : goal.returns-in-Some-clause-paused
returns-in-Some-clause-paused g c =
    let limit = g.N.HistoryId.limit in
    let one = c.in-Some.unsettled in
    let passed = c.choose-chosen.new.passed_over in
    let new = c.work_on.new.self in
    let chosen = chosen_by c.self.inside.given_up c.self.inside.passed_over c.self.inside.reader.known c.choose-chosen.new.reader.known new.known passed
    c.in-Ok.found one c.in-Some.is c.work_on.ensures.later c.in-Ok.ensures.chosen in
    subst (λ (w : WorkerView). c.work_on.result ≡ turns.Paused → ChoseInRound w new (PausesOn c.args.visits w new)) c.self.view_is
    (λ e. (one, passed, chosen, c.work_on.ensures.paused e))

pub returns-in-Some-clause-idle : goal.returns-in-Some-clause-idle
returns-in-Some-clause-idle g c =
    let limit = g.N.HistoryId.limit in
    let one = c.in-Some.unsettled in
    let passed = c.choose-chosen.new.passed_over in
    let new = c.work_on.new.self in
    let chosen = chosen_by c.self.inside.given_up c.self.inside.passed_over c.self.inside.reader.known c.choose-chosen.new.reader.known new.known passed
    c.in-Ok.found one c.in-Some.is c.work_on.ensures.later c.in-Ok.ensures.chosen in
    subst (λ (w : WorkerView). c.work_on.result ≡ turns.Idle → IsIdle limit w new) c.self.view_is
    (λ e. (Some one, passed, chosen, c.work_on.ensures.idle e, c.work_on.ensures.none e))

pub returns-in-Some-clause-refused : goal.returns-in-Some-clause-refused
returns-in-Some-clause-refused g c =
    let limit = g.N.HistoryId.limit in
    let one = c.in-Some.unsettled in
    let passed = c.choose-chosen.new.passed_over in
    let new = c.work_on.new.self in
    let chosen = chosen_by c.self.inside.given_up c.self.inside.passed_over c.self.inside.reader.known c.choose-chosen.new.reader.known new.known passed
    c.in-Ok.found one c.in-Some.is c.work_on.ensures.later c.in-Ok.ensures.chosen in
    subst (λ (w : WorkerView). (refusal : Refusal) → c.work_on.result ≡ turns.Refused refusal → Chose w new (λ it. IsRefusedTurn limit it.number refusal)) c.self.view_is
    (λ refusal e. (one, passed, chosen, c.work_on.ensures.refused refusal e))

pub returns-in-Some-clause-too_many : goal.returns-in-Some-clause-too_many
returns-in-Some-clause-too_many g c =
    let limit = g.N.HistoryId.limit in
    let one = c.in-Some.unsettled in
    let passed = c.choose-chosen.new.passed_over in
    let new = c.work_on.new.self in
    let chosen = chosen_by c.self.inside.given_up c.self.inside.passed_over c.self.inside.reader.known c.choose-chosen.new.reader.known new.known passed
    c.in-Ok.found one c.in-Some.is c.work_on.ensures.later c.in-Ok.ensures.chosen in
    subst (λ (w : WorkerView). c.work_on.result ≡ turns.Failed TooManyCycles → Chose w new (IsTooMuch limit new.known)) c.self.view_is
    (λ e. (one, passed, chosen, c.work_on.ensures.too_many e))

pub returns-in-Some-clause-gives_up : goal.returns-in-Some-clause-gives_up
returns-in-Some-clause-gives_up g c =
    let limit = g.N.HistoryId.limit in
    let one = c.in-Some.unsettled in
    let passed = c.choose-chosen.new.passed_over in
    let new = c.work_on.new.self in
    let chosen = chosen_by c.self.inside.given_up c.self.inside.passed_over c.self.inside.reader.known c.choose-chosen.new.reader.known new.known passed
    c.in-Ok.found one c.in-Some.is c.work_on.ensures.later c.in-Ok.ensures.chosen in
    let inside = c.self.inside in
    let before : WorkerView = record { known = inside.reader.known; given_up = inside.given_up; passed_over = inside.passed_over; paused = inside.paused } in
    let mid : WorkerView = record { known = c.choose-chosen.new.reader.known; given_up = inside.given_up; passed_over = passed; paused = inside.paused } in
    let now : (new.given_up ≡ before.given_up) ⊎ ((c.work_on.result ≡ turns.Failed TooManyCycles) × Chose before new (GivesUpOn limit before new)) =
    elim c.work_on.ensures.gives_up [
      | inl same ↦ inl same
      | inr gives ↦ inr (gives.0, (one, passed, chosen, given_up_since limit before mid new one c.choose-chosen.ensures.later refl gives.1))
    ] in
    subst (λ (w : WorkerView). (new.given_up ≡ w.given_up) ⊎ ((c.work_on.result ≡ turns.Failed TooManyCycles) × Chose w new (GivesUpOn limit w new))) c.self.view_is now
