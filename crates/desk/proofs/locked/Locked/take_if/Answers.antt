use Rattle.std.proofs.Common.{◌≡◌, ◌++◌, ◌∷◌, [], inr, None, refl, sym, ap, subst, ◌∙◌}
use Rattle.std.specs.Result.{result_err}
use Rattle.trace_model.specs.Protocol.Runs.{IsLegal}
use Rattle.trace_model.specs.declared.refusal.Refusal.TheVariants.{NoMemory}
use Rattle.sequencer.specs.Book.{finding_refused}
use Rattle.sequencer.specs.Deliveries.{delivery}
use Rattle.desk.specs.Published.{DeskView, delivery_step}
use Rattle.desk.specs.Refused.{RefusesFinding}
use Rattle.desk.proofs.Steps.{Moves, after_shown, goes, kept_on, legal_kept, legal_next, refuses_finding, stays, takes_finding}
use Rattle.desk.proofs.locked.Locked.take_if.Goals as goal
use Rattle.desk.proofs.locked.Locked.take_if.Goals.{After-take, In-Ok}
use Rattle.desk.proofs.locked.Locked.take_if.Given.{Over}

-- the machine accepts the finding
none : (g : Over) (c : In-Ok g) → None ≡ finding_refused c.self.inside.book.state c.args.finding
none g c =
    ap result_err (sym c.in-Ok.is) ∙ (c.requires.admitted ∙ ap (λ (k : DeskView). finding_refused k.state c.args.finding) (sym c.self.view_is))

taken : (g : Over) (c : After-take g) →
    Moves g.N.HistoryId.limit c.self.inside.board.published c.self.inside.board.waiting (c.grow.new.self.published ++ c.grow.new.self.waiting) c.self.inside.book.state c.take.new.self.state (delivery_step c.args.finding)
taken g c = record {
  kept = c.self.invariant;
  takes = takes_finding c.self.inside.book.state c.take.new.self.state c.args.finding (none g (goal.at.After-take g c).In-Ok) c.take.ensures.machine c.take.ensures.exact;
  is = λ i. c.in-Ok-grow.ensures.published i ++ (c.in-Ok-grow.ensures.waiting ∙ ap (λ x. x ∷ []) c.step_of.ensures) i;
}

pub publish-requires-clause-legal : goal.publish-requires-clause-legal
publish-requires-clause-legal g c = legal_next (taken g (goal.at.publish-requires-clause-legal g c).After-take)

pub invariant_of-self-in-Ok-grow : goal.invariant_of-self-in-Ok-grow
invariant_of-self-in-Ok-grow g c = kept_on (taken g (goal.at.invariant_of-self-in-Ok-grow g c).After-take) _ _ c.publish.ensures.published c.publish.ensures.waiting

pub returns-in-Err : goal.returns-in-Err
returns-in-Err g c =
    let limit = g.N.HistoryId.limit in
    let b = c.self.inside.board in
    let k = c.self.invariant in
    let refused = ap result_err (sym c.in-Err.is) ∙ c.requires.admitted in
    let after = after_shown limit _ _ c.self.view_is k.after in
    record {
      before = after;
      after = after;
      went = record { refuses = refuses_finding c.args.self.now.state c.args.finding c.in-Err.refusal refused; back = refl; same = refl };
      receipt = c.receipt.ensures ∙ ap (λ (x : DeskView). x.published) c.self.view_is;
      legal = subst (λ (x : DeskView). IsLegal x.published) c.self.view_is (legal_kept limit b.published b.waiting c.self.inside.book.state k);
    }

pub returns-in-Err-grow : goal.returns-in-Err-grow
returns-in-Err-grow g c =
    let b = c.self.inside.board in
    let s = c.self.inside.book.state in
    let f = c.args.finding in
    let it = stays g.N.HistoryId.limit b.published b.waiting _ s s _ (λ x. RefusesFinding x f NoMemory) c.self.invariant c.self.view_is c.in-Err-grow.ensures.published refl (inr (refl, sym (none g (goal.at.returns-in-Err-grow g c).In-Ok))) in
    record { before = it.before; after = it.after; went = record { refuses = it.is; back = refl; same = it.same }; receipt = c.receipt-in-Err-grow.ensures; legal = it.legal }

pub returns-in-Ok-grow : goal.returns-in-Ok-grow
returns-in-Ok-grow g c =
    let it = goes (taken g (goal.at.returns-in-Ok-grow g c).After-take) _ _ _ (λ x. delivery x c.args.finding ≡ (None, c.take.new.self.state)) c.self.view_is c.publish.ensures.published c.publish.ensures.waiting c.take.ensures.machine in
    record { before = it.before; after = it.after; went = record { taken = it.is; published = it.published; exact = c.take.ensures.exact }; receipt = c.publish.ensures.receipt; legal = it.legal }
