use Rattle.std.proofs.Common.{◌≡◌, sym, subst, ◌∙◌}
use Rattle.std.specs.Arc.{arc_value}
use Rattle.trace_model.specs.Theory.Closure.{IsClosure}
use Rattle.fronts.specs.Slots.{slots_of, AreSlotPlaces}
use Rattle.sp_closure.specs.Scratches.{upper_front}
use Rattle.sp_closure.proofs.SizeLemmas.{AreGathered, all_gathered}
use Rattle.sp_closure.proofs.scratch.ClosureScratch.answer.Goals as goal
use Rattle.sp_closure.proofs.scratch.ClosureScratch.answer.Goals.{In_ok-fronts}

-- The returned fronts are the closure.
gathered : (c : In_ok-fronts) → AreGathered c.args.index.now.events c.args.requirements.now.threads (upper_front c.args.self.now) c.in_ok-fronts.fronts
gathered c =
    let s = c.args.index.now.events in
    let self = c.args.self.now in
    let d = c.args.requirements.now in
    let is = c.requires.scratch in
    let fronts = c.in_ok-fronts.fronts in
    let positions = c.in_ok-positions.positions in
    let first : arc_value fronts.positions ≡ arc_value positions = λ i. arc_value (c.in_ok-fronts.ensures.positions i) in
    let second : arc_value positions ≡ arc_value d.threads.positions = c.in_ok-positions.ensures in
    let are = subst (AreSlotPlaces s (slots_of d.threads)) (sym (first ∙ second)) is.requirements.positions in
    all_gathered s c.args.places.now d.threads (upper_front self) fronts c.len-len.ensures.well_formed is.requirements.slots are
    c.in_ok-fronts.ensures.fronts c.in_ok-fronts.ensures.end c.requires.closure

pub returns : goal.returns
returns c =
    let s = c.args.index.now.events in
    let all = gathered c in
    record {
      instance = rw c.unwrap-instance.ensures at c.new.ensures.value;
      closure = subst (IsClosure s c.args.places.now) all.set c.requires.closure;
      size = sym (all.size c.requires.fronts);
    }
