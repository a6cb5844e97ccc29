use Rattle.std.proofs.Common.{◌≡◌, ℕ, List, get_or, Contains, true≢false, refl, sym, ◌∙◌, subst, ⊎_elim, arith}
use Rattle.std.proofs.lemmas.Grind.{get_or_default_zero}
use Rattle.std.proofs.lemmas.Bool.{cases_lt}
use Rattle.held_sets.proofs.Locks.{has_contains, contains_has}
use Rattle.held_sets.proofs.set.HeldSet.is_disjoint.Goals as goal

pub returns-then-contains : goal.returns-then-contains
returns-then-contains c = let xs = c.locks-lock-items.result.now in let i = c.loop-lock.lock-index in (
  (λ t. absurd (true≢false (sym t))),
  (λ apart. absurd (apart (get_or xs i 0)
      (subst (λ (ys : List ℕ). Contains ys (get_or xs i 0)) c.locks-lock-items.ensures.value (i, c.loop-lock-test.true, get_or_default_zero xs i _ c.loop-lock-test.true))
      (has_contains _ _ (sym c.contains.ensures ∙ c.if-contains.true)))),
)

pub loop-lock-preserved : goal.loop-lock-preserved
loop-lock-preserved c k lt h = ⊎_elim
    (λ before. c.loop-lock.invariant k before h)
    (λ here. let is : k ≡ c.loop-lock.lock-index = omega arith in
    true≢false (sym (c.contains.ensures ∙ contains_has _ _ (subst (λ (j : ℕ). Contains c.args.other.now (get_or c.locks-lock-items.result.now j 0)) is h)) ∙ c.if-contains.false))
    (cases_lt k c.loop-lock.lock-index)

pub returns : goal.returns
returns c = let xs = c.locks-lock-items.result.now in (
  (λ t lock a b. let v = c.locks-lock-items.ensures.value in let in_xs = subst (λ (ys : List ℕ). Contains ys lock) (sym v) a in
      c.loop-lock.invariant in_xs.0 (omega (arith, c.loop-lock-test.false, in_xs.1))
      (subst (Contains c.args.other.now) (sym (sym (get_or_default_zero xs in_xs.0 lock in_xs.1) ∙ in_xs.2)) b)),
  (λ _. refl),
)
