use Rattle.std.proofs.Common.{◌≡◌, ◌↔◌, Bool, false, IsTrue, inl, inr, refl, sym, ◌∙◌, arith, true≢false}
use Rattle.replay.proofs.order_rules.Known.order_fault.Goals as goal

-- The test does not fail.
passes : {P : Type 0} {b : Bool} → IsTrue b ↔ P → b ≡ false → P → ⊥
passes decides is fails = true≢false (sym (decides.1 fails) ∙ is)

pub returns-then-get-self : goal.returns-then-get-self
returns-then-get-self c = inl (omega arith, refl)

pub returns-then-is_passed : goal.returns-then-is_passed
returns-then-is_passed c =
    inr (λ beyond. omega arith, inl (c.is_passed.ensures.0 c.if-is_passed.true, refl))

pub returns-then-misses_earlier : goal.returns-then-misses_earlier
returns-then-misses_earlier c =
    inr (λ beyond. omega arith, inr (passes c.is_passed.ensures c.if-is_passed.false, inl (c.misses_earlier.ensures.0 c.if-misses_earlier.true, refl)))

pub returns-then-breaks_fork_order : goal.returns-then-breaks_fork_order
returns-then-breaks_fork_order c =
    inr (λ beyond. omega arith, inr (passes c.is_passed.ensures c.if-is_passed.false, inr (passes c.misses_earlier.ensures c.if-misses_earlier.false, inl (c.breaks_fork_order.ensures.0 c.if-breaks_fork_order.true, refl))))

pub returns-then-breaks_join_order : goal.returns-then-breaks_join_order
returns-then-breaks_join_order c =
    inr (λ beyond. omega arith, inr (passes c.is_passed.ensures c.if-is_passed.false, inr (passes c.misses_earlier.ensures c.if-misses_earlier.false, inr (passes c.breaks_fork_order.ensures c.if-breaks_fork_order.false, inl (c.breaks_join_order.ensures.0 c.if-breaks_join_order.true, refl)))))

pub returns-then-breaks_writer : goal.returns-then-breaks_writer
returns-then-breaks_writer c =
    inr (λ beyond. omega arith, inr (passes c.is_passed.ensures c.if-is_passed.false, inr (passes c.misses_earlier.ensures c.if-misses_earlier.false, inr (passes c.breaks_fork_order.ensures c.if-breaks_fork_order.false, inr (passes c.breaks_join_order.ensures c.if-breaks_join_order.false, inl (c.breaks_writer.ensures.0 c.if-breaks_writer.true, refl))))))

pub returns-then-breaks_sections : goal.returns-then-breaks_sections
returns-then-breaks_sections c =
    inr (λ beyond. omega arith, inr (passes c.is_passed.ensures c.if-is_passed.false, inr (passes c.misses_earlier.ensures c.if-misses_earlier.false, inr (passes c.breaks_fork_order.ensures c.if-breaks_fork_order.false, inr (passes c.breaks_join_order.ensures c.if-breaks_join_order.false, inr (passes c.breaks_writer.ensures c.if-breaks_writer.false, inl (c.breaks_sections.ensures.0 c.if-breaks_sections.true, refl)))))))

pub returns-then-breaks_lock_order : goal.returns-then-breaks_lock_order
returns-then-breaks_lock_order c =
    inr (λ beyond. omega arith, inr (passes c.is_passed.ensures c.if-is_passed.false, inr (passes c.misses_earlier.ensures c.if-misses_earlier.false, inr (passes c.breaks_fork_order.ensures c.if-breaks_fork_order.false, inr (passes c.breaks_join_order.ensures c.if-breaks_join_order.false, inr (passes c.breaks_writer.ensures c.if-breaks_writer.false, inr (passes c.breaks_sections.ensures c.if-breaks_sections.false, inl (c.breaks_lock_order.ensures.0 c.if-breaks_lock_order.true, refl))))))))

pub returns : goal.returns
returns c =
    inr (λ beyond. omega arith, inr (passes c.is_passed.ensures c.if-is_passed.false, inr (passes c.misses_earlier.ensures c.if-misses_earlier.false, inr (passes c.breaks_fork_order.ensures c.if-breaks_fork_order.false, inr (passes c.breaks_join_order.ensures c.if-breaks_join_order.false, inr (passes c.breaks_writer.ensures c.if-breaks_writer.false, inr (passes c.breaks_sections.ensures c.if-breaks_sections.false, inr (passes c.breaks_lock_order.ensures c.if-breaks_lock_order.false, refl))))))))
