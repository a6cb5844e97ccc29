use Rattle.std.proofs.Common.{◌≡◌, ℕ, ◌<◌, ◌≤◌, IfOk, sym, subst, ◌∙◌, arith}
use Rattle.std.specs.Arc.{arc_value}
use Rattle.std.specs.List.{Contains}
use Rattle.std.proofs.lemmas.Result.{IfOk-from_err, IfOk-weaker}
use Rattle.trace_model.specs.Theory.Closure.{IsClosure}
use Rattle.fronts.specs.declared.fronts.Fronts.{Fronts}
use Rattle.fronts.specs.Overlays.{front_of}
use Rattle.fronts.specs.State.{included_count}
use Rattle.fronts.specs.Slots.{slots_of, AreSlotPlaces}
use Rattle.sp_closure.proofs.BaseLemmas.{total_most, if_ok_three, sum_none, front_none}
use Rattle.sp_closure.proofs.SizeLemmas.{AreGathered, all_gathered}
use Rattle.sp_closure.proofs.scratch.close_over.Goals as goal
use Rattle.sp_closure.proofs.scratch.close_over.Goals.{After-gathered}
use Rattle.sp_closure.proofs.scratch.close_over.Given.{Over}

pub returns-in_err-reach_all : goal.returns-in_err-reach_all
returns-in_err-reach_all g c = record {
  closure = IfOk-from_err c.from_residual.result _ c.from_residual.ensures.0;
  counted = IfOk-from_err c.from_residual.result _ c.from_residual.ensures.0;
  at_most = omega (arith, c.reach_all.ensures.steps, total_most c.args.index.now.events c.args.requirements.now c.args.none.now c.reach_all.new.propagation c.requires.requirements c.reach_all.ensures.fits);
}

pub returns-in_err-positions : goal.returns-in_err-positions
returns-in_err-positions g c = record {
  closure = IfOk-from_err c.from_residual-in_err-positions.result _ c.from_residual-in_err-positions.ensures.0;
  counted = IfOk-from_err c.from_residual-in_err-positions.result _ c.from_residual-in_err-positions.ensures.0;
  at_most = omega (arith, c.reach_all.ensures.steps, total_most c.args.index.now.events c.args.requirements.now c.args.none.now c.reach_all.new.propagation c.requires.requirements c.reach_all.ensures.fits);
}

-- The returned fronts are the closure.
gathered : (g : Over) (c : After-gathered g) →
    IfOk c.gathered.result (AreGathered c.args.index.now.events c.args.requirements.now.threads (front_of c.args.none.now c.reach_all.new.propagation.overlay))
gathered g c =
    let s = c.args.index.now.events in
    let d = c.args.requirements.now in
    let front = front_of c.args.none.now c.reach_all.new.propagation.overlay in
    if_ok_three c.gathered.result (λ f. f.positions ≡ c.in_ok-positions.positions) (λ f. (a : ℕ) → a < d.threads.count → included_count f a ≡ front a)
    (λ f. (p : ℕ) → Contains c.args.places.now p → p ≤ f.end) (AreGathered s d.threads front) (λ (fronts : Fronts). λ is same most.
    let kept : arc_value fronts.positions ≡ arc_value d.threads.positions =
    (λ i. arc_value (is i)) ∙ c.in_ok-positions.ensures in
    let are = subst (AreSlotPlaces s (slots_of d.threads)) (sym kept) c.requires.requirements.positions in
    all_gathered s c.args.places.now d.threads front fronts c.len-len.ensures.well_formed c.requires.requirements.slots are same most
    c.in_ok-reach_all.ensures.closure)
    c.gathered.ensures.positions c.gathered.ensures.fronts c.gathered.ensures.end

pub returns : goal.returns
returns g c =
    let s = c.args.index.now.events in
    let k = c.args.requirements.now.threads.count in
    let l = c.args.requirements.now.lock_count in
    let none = c.args.none.now in
    let empty = c.args.propagation.now.overlay in
    let nothing = sum_none (front_of none empty) k (front_none k l k l none empty c.requires.none c.requires.empty) in
    let all = gathered g c in
    record {
      closure = IfOk-weaker c.gathered.result _ _ (λ fronts are. subst (IsClosure s c.args.places.now) are.set c.in_ok-reach_all.ensures.closure) all;
      counted = IfOk-weaker c.gathered.result _ _ (λ fronts are. omega (arith, c.reach_all.ensures.steps, nothing, are.size c.reach_all.ensures.fits.fronts)) all;
      at_most = omega (arith, c.reach_all.ensures.steps, total_most c.args.index.now.events c.args.requirements.now c.args.none.now c.reach_all.new.propagation c.requires.requirements c.reach_all.ensures.fits);
    }
