use Rattle.std.proofs.Common.{◌≡◌, ℕ, ◌+◌, ◌<◌, inl, inr, get_or, sym, subst, arith}
use Rattle.std.proofs.lemmas.Bool.{cases_lt}
use Rattle.cycle_search.specs.Acquirers.{Acquires, IsListed, IsLeast}
use Rattle.cycle_search.proofs.Listed.{least-join}
use Rattle.cycle_search.proofs.acquirers.Acquirers.next.Goals as goal

pub loop-lock-preserved : goal.loop-lock-preserved
loop-lock-preserved c =
    let acquirers = Acquires c.args.self.now in
    let locks = c.args.locks.now in
    let i = c.loop-lock.lock-index in
    let next : ℕ → ℕ → Type 0 = λ n m. (c.args.bound < m) × IsListed acquirers locks n m in
    subst (IsLeast (next (i + 1))) (sym c.lesser-least.ensures)
    (least-join (next i) (λ m. (c.args.bound < m) × acquirers (get_or locks i 0) m) (next (i + 1)) _ _
    (λ m h. (h.0, (h.1.0, omega (arith, h.1.1), h.1.2)))
    (λ m h. (h.0, (i, omega arith, h.1)))
    (λ m (above, (k, l, listed)). elim (cases_lt k i) [
      | inl less ↦ inl (above, (k, less, listed))
      | inr more ↦ let same : k ≡ i = omega arith in inr (above, subst (λ n. acquirers (get_or locks n 0) m) same listed)
    ])
    c.loop-lock.invariant c.next_of.ensures)
