use Rattle.std.proofs.Common.{◌≡◌, refl, ap, subst, ◌∙◌, ◌+◌, arith}
use Rattle.std.proofs.lemmas.Bool.{false≢true}
use Rattle.std.proofs.lemmas.Result.{IfOk-from_err}
use Rattle.fronts.specs.EpochArrays.{size}
use Rattle.fronts.specs.Slots.{HasFirst}
use Rattle.fronts.specs.Overlays.{front_of}
use Rattle.fronts.specs.Propagation.{sum_to, IsFit}
use Rattle.fronts.specs.Context.{fronts, slots, state, context_events}
use Rattle.fronts.proofs.RaiseLemmas.{IsLifted, lifted_from, lifted_fits, lifted_steps, lifted_raises, lifted_behind, lifted_bound, done_in, last_in}
use Rattle.fronts.proofs.StageLemmas.{moved_same}
use Rattle.fronts.proofs.propagation.Propagation.raise_to.Goals as goal
use Rattle.fronts.proofs.propagation.Propagation.raise_to.Goals.{After-push}
use Rattle.fronts.proofs.propagation.Propagation.raise_to.Given.{Over}

pub raise_front-requires : goal.raise_front-requires
raise_front-requires g c = omega (arith, c.requires.slot, c.in-Some.ensures.advanced.slot, c.requires.fits.room.fronts)

-- The front of the prefix's slot is raised to the advanced members.
lifted : (g : Over) (c : After-push g) →
    IsLifted (fronts c.args.context.now c.args.self.now) (front_of c.args.context.now.under.now c.raise_front.new.self)
    c.args.prefix.slot c.in-Some.prefix.count
lifted g c =
    let gr = c.args.context.now in
    let advanced = c.in-Some.ensures.advanced in
    lifted_from (fronts gr c.args.self.now) (front_of gr.under.now c.raise_front.new.self)
    c.args.prefix.slot c.in-Some.prefix.slot c.args.prefix.count c.in-Some.prefix.count
    c.raise_front.ensures.front advanced.slot c.requires.further advanced.more

fits_after : (g : Over) (c : After-push g) → IsFit (context_events c.args.context.now) c.args.context.now.requirements.now c.args.context.now.under.now (record { overlay = c.raise_front.new.self; pending = c.push.new.self })
fits_after g c =
    let gr = c.args.context.now in
    let advanced = c.in-Some.ensures.advanced in
    record {
      room = record {
        fronts = c.raise_front.ensures.size ∙ c.requires.fits.room.fronts;
        done = ap size c.raise_front.ensures.done ∙ c.requires.fits.room.done;
        last = ap size c.raise_front.ensures.last ∙ c.requires.fits.room.last;
      };
      fronts = lifted_fits gr.index.now.events (slots gr) (fronts gr c.args.self.now) (front_of gr.under.now c.raise_front.new.self)
          c.args.prefix.slot c.in-Some.prefix.count c.requires.fits.fronts
          (subst (λ a. HasFirst gr.index.now.events (slots gr) a c.in-Some.prefix.count) advanced.slot advanced.has) (lifted g c);
    }

-- The places added by `raise_front` are counted.
counted : (g : Over) (c : After-push g) →
    c.raise_front.new.steps + sum_to (fronts c.args.context.now c.args.self.now) c.args.context.now.requirements.now.threads.count
    ≡ c.args.steps.now + sum_to (front_of c.args.context.now.under.now c.raise_front.new.self) c.args.context.now.requirements.now.threads.count
counted g c =
    let gr = c.args.context.now in
    let old = fronts gr c.args.self.now in
    let new = front_of gr.under.now c.raise_front.new.self in
    lifted_steps old new c.args.prefix.slot c.in-Some.prefix.count gr.requirements.now.threads.count c.args.steps.now c.raise_front.new.steps
    (lifted g c) c.requires.slot
    (subst (λ a. c.raise_front.new.steps + old a ≡ c.args.steps.now + new a) c.in-Some.ensures.advanced.slot c.raise_front.ensures.steps)

pub returns-in_err-push-in-Some : goal.returns-in_err-push-in-Some
returns-in_err-push-in-Some g c =
    let result = c.from_residual.result in
    let is_err = c.from_residual.ensures.0 in
    record {
      raises = IfOk-from_err result _ is_err;
      carries = record {
        fits = fits_after g c.before.before.before;
        steps = counted g c.before.before.before;
        same = moved_same c.args.prefix.slot c.args.members.now c.advance_members.new.members c.in-Some.ensures.moved;
        behind = IfOk-from_err result _ is_err;
        bound = IfOk-from_err result _ is_err;
      };
    }

pub returns-in_ok-push-in-Some-clause-raises : goal.returns-in_ok-push-in-Some-clause-raises
returns-in_ok-push-in-Some-clause-raises g c is =
    let gr = c.args.context.now in
    let under = gr.under.now in
    let old = fronts gr c.args.self.now in
    let new = front_of under c.raise_front.new.self in
    let advanced = c.in-Some.ensures.advanced in
    let l = lifted g c.before.before in
    lifted_raises gr.requirements.now.threads.count c.args.prefix (state gr c.args.self.now) (state gr (record { overlay = c.raise_front.new.self; pending = c.push.new.self }))
    c.in-Some.prefix.count c.in-Some.prefix.slot l advanced.more c.requires.slot c.in_ok-push-in-Some.ensures.items advanced.slot
    (λ b. ap (λ epoch_array. done_in under epoch_array b) c.raise_front.ensures.done)
    (λ b. ap (λ epoch_array. last_in under epoch_array b) c.raise_front.ensures.last)

pub returns-in_ok-push-in-Some-clause-carries : goal.returns-in_ok-push-in-Some-clause-carries
returns-in_ok-push-in-Some-clause-carries g c =
    let gr = c.args.context.now in
    let old = fronts gr c.args.self.now in
    let new = front_of gr.under.now c.raise_front.new.self in
    let advanced = c.in-Some.ensures.advanced in
    let l = lifted g c.before.before in
    record {
      fits = fits_after g c.before.before;
      steps = counted g c.before.before;
      same = moved_same c.args.prefix.slot c.args.members.now c.advance_members.new.members c.in-Some.ensures.moved;
      behind = λ is. lifted_behind gr.index.now.events (slots gr) old new c.args.prefix c.in-Some.prefix c.args.members.now c.advance_members.new.members l c.requires.members c.in-Some.ensures.moved advanced
          c.in-Some.ensures.members;
      bound = λ set bound holds. (
        refl,
        lifted_bound gr.index.now.events (slots gr) old new c.args.prefix.slot c.in-Some.prefix.count c.args.members.now c.advance_members.new.members set l bound
            (c.in-Some.ensures.ahead set bound.ahead holds),
      );
    }

pub returns-in-None : goal.returns-in-None
returns-in-None g c = record {
  raises = λ is. absurd (false≢true is);
  carries = record {
    fits = c.requires.fits;
    steps = refl;
    same = moved_same c.args.prefix.slot c.args.members.now c.advance_members.new.members c.advance_members.ensures.moved;
    behind = λ is. absurd (false≢true is);
    bound = λ set b holds. absurd (c.in-None.ensures.ahead set b.ahead holds);
  };
}
