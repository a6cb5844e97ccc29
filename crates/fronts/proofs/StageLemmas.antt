-- Propagations that are carried from one stage to another.
use Rattle.std.proofs.Common.{◌≡◌, ℕ, ◌+◌, Bool, true, List, Result, Ok, refl, sym, ap, subst, ◌∙◌}
use Rattle.std.proofs.lemmas.Option.{same_Some}
use Rattle.std.proofs.lemmas.Result.{IfOk-weaker}
use Rattle.trace_model.specs.Theory.Closure.{Places}
use Rattle.fronts.specs.declared.overlay.Overlay.{Overlay}
use Rattle.fronts.specs.declared.propagation.Context.{Context}
use Rattle.fronts.specs.declared.propagation.Propagation.{Propagation}
use Rattle.fronts.specs.declared.members.Member.{Member}
use Rattle.fronts.specs.EpochArrays.{size}
use Rattle.fronts.specs.Slots.{HasFronts}
use Rattle.fronts.specs.Members.{AreMoved}
use Rattle.fronts.specs.Propagation.{AreAtFront, AreSame, IsBound, sum_to, IsFit}
use Rattle.fronts.specs.Context.{Carries, IsReadyContext, Stage, context_events, slots, stage, thread_count, total, fronts}
use Rattle.fronts.proofs.RaiseLemmas.{front_in}

pub moved_same : (slot : ℕ) (old new : List Member) → AreMoved slot old new → AreSame old new
moved_same slot old new moved = record { same_length = moved.same_length; places = λ i x y h k. (moved.same i x y h k).places }

pub same_members : (members : List Member) → AreSame members members
same_members members = record { same_length = refl; places = λ i x y h k. ap (λ m. m.places) (same_Some y x (sym k ∙ h)) }

-- Without a change the propagation continues.
pub carries_here : {E : Type 0} (g : Context) (Needed : Places → Type 0) (w : Propagation) (members : List Member) (n : ℕ) → IsFit (context_events g) g.requirements.now g.under.now w → AreAtFront (context_events g) (slots g) (fronts g w) members →
    Carries {E = E} g Needed (stage w members n) (stage w members n) (Ok true)
carries_here g Needed w members n fits behind = record {
  fits = fits;
  steps = refl;
  same = same_members members;
  behind = λ is. behind;
  bound = λ set b requirement. (refl, b);
}

-- With the same fronts and the same memory, the propagation is still ready.
pub ready_same : (gr : Context) (w : Propagation) (members : List Member) (overlay : Overlay) → IsReadyContext gr w members → overlay.fronts ≡ w.overlay.fronts → size overlay.done ≡ size w.overlay.done →
    size overlay.last ≡ size w.overlay.last → IsReadyContext gr (record { overlay = overlay; pending = w.pending }) members
ready_same gr w members overlay ready fronts done last =
    let s = gr.index.now.events in
    let under = gr.under.now in
    record {
      sound = ready.sound;
      fits = record {
        room = record {
          fronts = ap size fronts ∙ ready.fits.room.fronts;
          done = done ∙ ready.fits.room.done;
          last = last ∙ ready.fits.room.last;
        };
        fronts = subst (λ epoch_array. HasFronts s (slots gr) (front_in under epoch_array)) (sym fronts) ready.fits.fronts;
      };
      behind = subst (λ epoch_array. AreAtFront s (slots gr) (front_in under epoch_array) members) (sym fronts) ready.behind;
    }

-- From a propagation with the same fronts, if the needed property follows.
pub carries_from : {E : Type 0} (g : Context) (Needed More : Places → Type 0) (w mid : Propagation) (members : List Member) (n : ℕ) (new : Stage) (result : Result Bool E) →
    mid.overlay.fronts ≡ w.overlay.fronts → ((set : Places) → IsBound (context_events g) (slots g) (fronts g w) members set → More set → Needed set) →
    Carries g Needed (stage mid members n) new result → Carries g More (stage w members n) new result
carries_from g Needed More w mid members n new result same needs c = record {
  fits = c.fits;
  steps = subst (λ epoch_array. new.steps + sum_to (front_in g.under.now epoch_array) (thread_count g) ≡ n + total g new.propagation) same c.steps;
  same = c.same;
  behind = c.behind;
  bound = IfOk-weaker result _ _ (λ goes on set b more.
      on set (subst (λ epoch_array. IsBound (context_events g) (slots g) (front_in g.under.now epoch_array) members set) (sym same) b) (needs set b more)) c.bound;
}
