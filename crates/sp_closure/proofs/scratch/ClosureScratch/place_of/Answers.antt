use Rattle.std.proofs.Common.{slice_get, refl, inl, inr, ap, subst, sym, ◌∙◌, arith}
use Rattle.std.proofs.lemmas.Option.{none-some}
use Rattle.sp_closure.specs.Scratches.{IsKeptClosure}
use Rattle.sp_closure.proofs.BaseLemmas.{front_none}
use Rattle.sp_closure.proofs.OtherBases.{pushed_at, has_others}
use Rattle.sp_closure.proofs.scratch.ClosureScratch.place_of.Goals as goal

pub returns-in_err-push-clause-others : goal.returns-in_err-push-clause-others
returns-in_err-push-clause-others c = λ of n h.
    has_others c.args.requirements.now c.args.self.now (record c.args.self.now { others = c.push.new.self }) of n refl refl (λ w. refl)
    (λ i b at. inr (ap (λ xs. slice_get xs i) (sym c.in_err-push.ensures.items) ∙ at)) h

pub returns-clause-others : goal.returns-clause-others
returns-clause-others c = λ of n h.
    has_others c.args.requirements.now c.args.self.now (record c.args.self.now { others = c.push.new.self }) of n refl refl (λ w. refl)
    (λ i b at. elim (pushed_at c.args.self.now.others.items _ i b (ap (λ xs. slice_get xs i) (sym c.in_ok-push.ensures.items) ∙ at)) [
      | inl e ↦ inr e
      | inr e ↦ inl (λ j. (e j).of)
    ]) h

pub returns-clause-scratch : goal.returns-clause-scratch
returns-clause-scratch c =
    let s = c.args.index.now.events in
    let old = c.requires.scratch in
    let d = c.args.requirements.now in
    let k = d.threads.count in
    let l = d.lock_count in
    let none = c.args.self.now.none in
    let empty = c.in_ok-propagation.ensures.overlay in
    record {
      requirements = old.requirements;
      none = old.none;
      fits = old.fits;
      base = old.base;
      others = λ i b at. elim (pushed_at c.args.self.now.others.items _ i b (ap (λ xs. slice_get xs i) (sym c.in_ok-push.ensures.items) ∙ at)) [
        | inl e ↦ old.others i b e
        | inr e ↦ subst (IsKeptClosure s d none) (sym e) (record {
          fits = record {
            room = record { fronts = empty.fronts.size; done = empty.done.size; last = empty.last.size };
            fronts = λ a n less. absurd (omega (arith, less, front_none k l k l none c.in_ok-propagation.propagation.overlay old.none empty a));
          };
          base = λ to q. absurd (none-some to q);
        })
      ];
      room = old.room;
    }
