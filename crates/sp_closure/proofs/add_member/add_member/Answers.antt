use Rattle.std.proofs.Common.{max, length, refl, sym, ap, subst, ◌∙◌, arith}
use Rattle.std.proofs.lemmas.Option.{same_Some}
use Rattle.std.proofs.lemmas.Result.{IfOk-from_err, IfOk-weaker}
use Rattle.dependencies.specs.Tables.{dependency_places}
use Rattle.fronts.specs.Members.{lists}
use Rattle.fronts.specs.Context.{fronts, slots, state, items, context_events}
use Rattle.sp_closure.proofs.BaseLemmas.{on_ok}
use Rattle.sp_closure.proofs.EnterLemmas.{upto_pushed, reach_pushed, ahead_pushed, held_pushed, lists_entered, consistent_raised, written}
use Rattle.sp_closure.proofs.add_member.add_member.Goals as goal
use Rattle.fronts.specs.Propagation.{AreAtFront, IsBound}

pub raise_to-requires-clause-members : goal.raise_to-requires-clause-members
raise_to-requires-clause-members g c =
    let gr = c.args.context.now in
    let m = c.first_member-member.result in
    upto_pushed gr.index.now.events (slots gr) (fronts gr c.args.propagation.now) c.args.members.now.items c.as_mut_slice.result.now m (record { slot = m.slot; count = c.greater.result })
    c.requires.ready.behind c.first_member-member.ensures.member.is_member (c.as_mut_slice.ensures.value ∙ c.in_ok-push.ensures.items) refl
    (c.greater.ensures ∙ ap (λ z. max z m.number) (c.count-front.ensures ∙ c.front.ensures))

pub raise_to-requires-clause-slot : goal.raise_to-requires-clause-slot
raise_to-requires-clause-slot g c =
    let m = c.first_member-member.result in
    let known = c.requires.ready.sound.slots in
    let slot = c.first_member-member.ensures.member.is_member.positions.slot in
    let (t, o) = known.of_place m.place m.slot slot in
    let (a, e, less) = known.each m.place t o in
    omega (arith, less, same_Some a m.slot (sym e ∙ slot))

pub raise_to-requires-clause-reach : goal.raise_to-requires-clause-reach
raise_to-requires-clause-reach g c =
    let gr = c.args.context.now in
    let m = c.first_member-member.result in
    reach_pushed gr.index.now.events (slots gr) gr.requirements.now.threads.count (fronts gr c.args.propagation.now) m c.greater.result c.requires.ready.sound.slots c.requires.ready.fits.fronts
    c.first_member-member.ensures.member.is_member (c.greater.ensures ∙ ap (λ z. max z m.number) (c.count-front.ensures ∙ c.front.ensures))

pub returns-in_err-push : goal.returns-in_err-push
returns-in_err-push g c = record {
  fits = c.requires.ready.fits;
  steps = refl;
  lists = IfOk-from_err c.from_residual.result _ c.from_residual.ensures.0;
  consistent = IfOk-from_err c.from_residual.result _ c.from_residual.ensures.0;
  pending = IfOk-from_err c.from_residual.result _ c.from_residual.ensures.0;
  behind = IfOk-from_err c.from_residual.result _ c.from_residual.ensures.0;
  bound = IfOk-from_err c.from_residual.result _ c.from_residual.ensures.0;
}

pub returns : goal.returns
returns g c =
    let gr = c.args.context.now in
    let s = gr.index.now.events in
    let m = c.first_member-member.result in
    let first = c.first_member-member.ensures.member in
    let forced = c.raise_to.ensures.carries in
    let result = c.raise_to.result in
    let pushed = c.as_mut_slice.ensures.value ∙ c.in_ok-push.ensures.items in
    let xs = dependency_places c.args.table.now c.args.number in
    let back = written c.push.new.self.len c.raise_to.new.members _
    (c.push.new.self.ok.0 ∙ (ap length (sym c.as_mut_slice.ensures.value) ∙ sym forced.same.same_length)) in
    record {
      fits = forced.fits;
      steps = forced.steps;
      lists = on_ok result
          (ap lists back ∙ lists_entered c.args.members.now.items c.as_mut_slice.result.now c.raise_to.new.members m xs pushed first.places forced.same);
      consistent = IfOk-weaker result _ _ (λ goes raises is.
          consistent_raised (items gr) gr.requirements.now.threads.count _ (state gr c.args.propagation.now) (state gr c.raise_to.new.self) c.requires.consistent (raises is)) c.raise_to.ensures.raises;
      pending = IfOk-weaker result _ _ (λ goes raises is. (raises is).growth.known c.requires.pending) c.raise_to.ensures.raises;
      behind = IfOk-weaker result _ _ (λ goes behind is. subst (AreAtFront (context_events gr) (slots gr) (fronts gr c.raise_to.new.self)) (sym back) (behind is)) forced.behind;
      bound = IfOk-weaker result _ _ (λ goes bound set b stop.
          let (went, new) = bound set
          (record {
            ahead = ahead_pushed s (slots gr) set c.args.members.now.items c.as_mut_slice.result.now m xs b.ahead first pushed stop;
            holds = b.holds;
          })
          (held_pushed s (slots gr) gr.requirements.now.threads.count set (fronts gr c.args.propagation.now) m xs c.greater.result c.requires.ready.sound.slots b.holds
          first stop (c.greater.ensures ∙ ap (λ z. max z m.number) (c.count-front.ensures ∙ c.front.ensures))) in
          (went, subst (λ ms. IsBound (context_events gr) (slots gr) (fronts gr c.raise_to.new.self) ms set) (sym back) new)) forced.bound;
    }
