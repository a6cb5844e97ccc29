use Rattle.std.proofs.Common.{◌≡◌, [], ◌∷◌, ◌++◌, map, take, inr, refl, sym, ap, subst, ◌∙◌}
use Rattle.trace_model.specs.declared.messages.step.BoardStep.TheVariants.{Accept}
use Rattle.trace_model.specs.Protocol.Machine.{State}
use Rattle.trace_model.specs.declared.refusal.Refusal.TheVariants.{NoMemory}
use Rattle.sequencer.specs.Batched.{IsBatched}
use Rattle.board.specs.Fits.{truncated_step}
use Rattle.desk.specs.Published.{DeskView}
use Rattle.desk.proofs.Steps.{Moves, accepting_some, first_admitted, goes, kept_on, legal_next, none_accepted, none_batched, stays, takes_batch}
use Rattle.desk.proofs.locked.Locked.offer_batch.Goals as goal
use Rattle.desk.proofs.locked.Locked.offer_batch.Goals.{After-truncate}
use Rattle.desk.proofs.locked.Locked.offer_batch.Given.{Over}

pub record_batch-batched-requires-clause-admitted : goal.record_batch-batched-requires-clause-admitted
record_batch-batched-requires-clause-admitted g c =
    first_admitted c.reserve_event.new.self c.self.inside.book.state c.args.events.now _ c.requires.0 c.in_default.ensures.shown c.in_default.ensures.ok.0 c.in_default.ensures.ok.1

-- the outcome is the machine's, whose events the truncated step publishes
came : (g : Over) (c : After-truncate g) → IsBatched c.self.inside.book.state c.args.events.now c.record_batch-batched.result c.record_batch-batched.new.self.state
came g c =
    subst (λ (m : State). IsBatched m c.args.events.now c.record_batch-batched.result c.record_batch-batched.new.self.state) c.reserve_event.ensures.shown c.record_batch-batched.ensures.batched

taken : (g : Over) (c : After-truncate g) →
    Moves g.N.HistoryId.limit c.self.inside.board.published c.self.inside.board.waiting (c.truncate.new.self.published ++ c.truncate.new.self.waiting) c.self.inside.book.state c.record_batch-batched.new.self.state (Accept (take c.record_batch-batched.result.accepted c.args.events.now))
taken g c =
    let waits : c.truncate.new.self.waiting ≡ Accept (take c.record_batch-batched.result.accepted c.args.events.now) ∷ [] =
    c.truncate.ensures.waiting ∙ (ap (map (truncated_step c.from.result)) c.in-Ok.ensures.waiting ∙ (λ i. Accept (take (c.from.ensures i) (c.in-Some.ensures.value i)) ∷ [])) in
    record {
      kept = c.self.invariant;
      takes = takes_batch c.self.inside.book.state _ c.args.events.now c.record_batch-batched.result c.requires c.record_batch-batched.ensures.some (came g c);
      is = λ i. (c.truncate.ensures.published ∙ c.in-Ok.ensures.published) i ++ waits i;
    }

pub publish-requires-clause-legal : goal.publish-requires-clause-legal
publish-requires-clause-legal g c = legal_next (taken g (goal.at.publish-requires-clause-legal g c).After-truncate)

pub invariant_of-self-2 : goal.invariant_of-self-2
invariant_of-self-2 g c = kept_on (taken g (goal.at.invariant_of-self-2 g c).After-truncate) _ _ c.publish.ensures.published c.publish.ensures.waiting

pub returns-in-Err : goal.returns-in-Err
returns-in-Err g c =
    let b = c.self.inside.board in
    let s = c.self.inside.book.state in
    let next = c.reserve_event.new.self.state in
    let es = c.args.events.now in
    let out = c.none_of.result in
    let none = c.none_of.ensures in
    let it = stays g.N.HistoryId.limit b.published b.waiting _ s next _ (λ x. IsBatched x es out next) c.self.invariant c.self.view_is refl c.in-Err.ensures.shown
    (none_batched s next es _ c.in-Err.refusal out c.in-Err.ensures.shown c.requires.0 c.in-Err.ensures.refused none.accepted none.refusal none.length) in
    record {
      before = it.before;
      after = it.after;
      batched = it.is;
      published = none_accepted b.published c.args.self.now.published es out.accepted (ap (λ (x : DeskView). x.published) it.same) none.accepted;
      receipt = c.receipt.ensures;
      legal = it.legal;
    }

pub returns-in_default-grow : goal.returns-in_default-grow
returns-in_default-grow g c =
    let b = c.self.inside.board in
    let s = c.self.inside.book.state in
    let next = c.reserve_event.new.self.state in
    let es = c.args.events.now in
    let out = c.none_of-in_default-grow.result in
    let none = c.none_of-in_default-grow.ensures in
    let shown = c.in_default.ensures.shown in
    let it = stays g.N.HistoryId.limit b.published b.waiting _ s next _ (λ x. IsBatched x es out next) c.self.invariant c.self.view_is c.in_default-grow.ensures.published shown
    (none_batched s next es _ NoMemory out shown c.requires.0 (inr (refl, c.in_default.ensures.ok.1)) none.accepted none.refusal none.length) in
    record {
      before = it.before;
      after = it.after;
      batched = it.is;
      published = none_accepted c.grow.new.self.published c.args.self.now.published es out.accepted (ap (λ (x : DeskView). x.published) it.same) none.accepted;
      receipt = c.receipt-in_default-grow.ensures;
      legal = it.legal;
    }

pub returns : goal.returns
returns g c =
    let es = c.args.events.now in
    let out = c.record_batch-batched.result in
    let some = accepting_some es out.accepted c.record_batch-batched.ensures.some c.requires.0 in
    let it = goes (taken g (goal.at.returns g c).After-truncate) _ _ _ (λ x. IsBatched x es out c.record_batch-batched.new.self.state) c.self.view_is c.publish.ensures.published c.publish.ensures.waiting (came g (goal.at.returns g c).After-truncate) in
    record {
      before = it.before;
      after = it.after;
      batched = it.is;
      published = it.published ∙ ap (λ xs. c.args.self.now.published ++ xs) (sym some);
      receipt = c.publish.ensures.receipt;
      legal = it.legal;
    }
