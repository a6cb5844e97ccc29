use Rattle.std.proofs.Common.{◌≡◌, ℕ, ◌<◌, ◌≤◌, List, ◌∷◌, [], ◌++◌, length, Some, None, refl, sym, ap, subst, ◌∙◌, arith}
use Rattle.std.proofs.lemmas.List.{length-append}
use Rattle.std.proofs.lemmas.Option.{none-some}
use Rattle.trace_model.specs.declared.limits.TheConstants.{MAX_EVENTS}
use Rattle.trace_model.specs.Theory.Trace.{Trace}
use Rattle.trace_model.specs.Theory.Lawful.{refusal_of}
use Rattle.trace_model.proofs.Theory.OneMore.{lawful_higher, lawful_room}
use Rattle.lock_tables.specs.Tables.{FollowTrace}
use Rattle.wellformed.specs.Gate.{GateView, admitted_with}
use Rattle.wellformed.specs.Tables.{FollowEvents}
use Rattle.sequencer.proofs.recorder.Recorder.record.Goals as goal
use Rattle.sequencer.proofs.recorder.Recorder.record.Goals.{After-new}

ready : (c : After-new) → c.self.inside.ready ≡ Some c.args.event.now
ready c = ap (λ (g : GateView). g.reserved) c.self.view_is ∙ c.requires.reserved

lawful : (c : After-new) → refusal_of c.self.inside.limit c.self.inside.index.events c.args.event.now ≡ None
lawful c = ap (λ (g : GateView). refusal_of g.limit g.events c.args.event.now) c.self.view_is ∙ c.requires.lawful

-- an event that is lawful below the recorder's limit is lawful below the largest one
lawful_most : (c : After-new) → refusal_of MAX_EVENTS c.self.inside.index.events c.args.event.now ≡ None
lawful_most c = lawful_higher c.self.inside.limit MAX_EVENTS c.self.inside.index.events c.args.event.now c.self.invariant.small (lawful c)

pub record_in-requires : goal.record_in-requires
record_in-requires c = record {
  name = refl;
  parts = refl;
  some = omega (arith, c.new.ensures);
  reserved = (c.self.invariant.room c.args.event.now (ready (goal.at.record_in-requires c).After-new)).in_index;
  lawful = lawful_most (goal.at.record_in-requires c).After-new;
}

pub record-requires : goal.record-requires
record-requires c = record {
  room = (c.self.invariant.room c.args.event.now (ready (goal.at.record-requires c).After-new)).in_tables;
  lawful = (c.self.inside.index.events, c.self.invariant.tables_are, lawful_most (goal.at.record-requires c).After-new);
}

pub record-requires-2 : goal.record-requires-2
record-requires-2 c = record {
  room = (c.self.invariant.room c.args.event.now (ready (goal.at.record-requires-2 c).After-new)).in_admission;
  lawful = (c.self.inside.index.events, c.self.invariant.admission_is, lawful_most (goal.at.record-requires-2 c).After-new);
}

longer : {X : Type 0} (xs : List X) (x : X) (most : ℕ) → length xs < most → length (xs ++ x ∷ []) ≤ most
longer xs x most h = omega (arith, length-append xs (x ∷ []))

pub invariant_of-self : goal.invariant_of-self
invariant_of-self c =
    let b = c.self.inside in
    let e = c.args.event.now in
    let i = c.self.invariant in
    let more = sym c.record_in.ensures in
    let admission = c.record-2.ensures b.index.events i.admission_is (lawful_most (goal.at.invariant_of-self c).After-new) in
    record {
      small = i.small;
      within = subst (λ (s : Trace). length s ≤ b.limit) more (longer b.index.events e b.limit (lawful_room b.limit b.index.events e (lawful (goal.at.invariant_of-self c).After-new)));
      admission_is = subst (FollowEvents c.record-2.new.self) more admission;
      tables_are = subst (FollowTrace c.record.new.self) more (c.record.ensures b.index.events i.tables_are);
      room = λ other h. absurd (none-some other h);
    }

pub returns : goal.returns
returns c =
    let b = c.self.inside in
    let e = c.args.event.now in
    let added : ◌≡◌ {A = GateView} (record { limit = b.limit; events = c.record_in.new.index.events; reserved = None }) (record { limit = b.limit; events = b.index.events ++ e ∷ []; reserved = None }) =
    ap (λ (s : Trace). record { limit = b.limit; events = s; reserved = None }) c.record_in.ensures in
    added ∙ ap (λ (g : GateView). admitted_with g e) c.self.view_is
