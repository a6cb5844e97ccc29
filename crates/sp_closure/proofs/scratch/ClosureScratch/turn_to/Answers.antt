use Rattle.std.proofs.Common.{◌≡◌, slice_get, Some, inl, inr, ap, subst, sym, ◌∙◌}
use Rattle.std.proofs.lemmas.Option.{slice_get-get_or}
use Rattle.fronts.specs.declared.propagation.Propagation.{Propagation}
use Rattle.fronts.specs.Propagation.{IsFit}
use Rattle.sp_closure.specs.Scratches.{IsBase, IsKeptClosure, total_over}
use Rattle.sp_closure.proofs.OtherBases.{set_at}
use Rattle.sp_closure.proofs.scratch.ClosureScratch.turn_to.Goals as goal

pub returns-clause-scratch : goal.returns-clause-scratch
returns-clause-scratch c =
    let s = c.args.index.now.events in
    let was = c.place_of.new.self in
    let is = c.place_of.ensures.scratch in
    let d = c.args.requirements.now in
    let none = was.none in
    let other = c.index_mut-other.result.now in
    let at : slice_get was.others.items c.in_ok-at.at ≡ Some other =
    slice_get-get_or was.others.items c.in_ok-at.at other c.in_ok-at.ensures.within ∙ ap (λ b. Some b) (sym c.index_mut-other.ensures.value) in
    let it = is.others c.in_ok-at.at other at in
    record {
      requirements = is.requirements;
      none = is.none;
      fits = subst (IsFit s d none) (sym c.swap.ensures.x_after) it.fits;
      base = λ to e. subst (λ (w : Propagation). IsBase s d none to w.overlay) (sym c.swap.ensures.x_after) (it.base to (sym c.swap-2.ensures.x_after ∙ e));
      others = λ i b at. elim (set_at was.others.items c.in_ok-at.at _ i b at) [
        | inl e ↦ is.others i b e
        | inr e ↦ subst (IsKeptClosure s d none) (sym e) (record {
          fits = subst (IsFit s d none) (sym c.swap.ensures.y_after) is.fits;
          base = λ to q. subst (λ (w : Propagation). IsBase s d none to w.overlay) (sym c.swap.ensures.y_after) (is.base to (sym c.swap-2.ensures.y_after ∙ q));
        })
      ];
      room = is.room;
    }

pub returns-clause-has : goal.returns-clause-has
returns-clause-has c =
    let was = c.place_of.new.self in
    let other = c.index_mut-other.result.now in
    let at : slice_get was.others.items c.in_ok-at.at ≡ Some other =
    slice_get-get_or was.others.items c.in_ok-at.at other c.in_ok-at.ensures.within ∙ ap (λ b. Some b) (sym c.index_mut-other.ensures.value) in
    c.place_of.ensures.others _ _ (inr (inr (record {
      index = c.in_ok-at.at;
      other = other;
      at = at;
      prefix = c.swap-2.ensures.x_after;
      places = ap (λ (w : Propagation). total_over was.none w c.args.requirements.now) c.swap.ensures.x_after;
    })))
