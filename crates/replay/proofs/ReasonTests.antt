-- The tests of reasons decide the reasons.
use Rattle.std.proofs.Common.{◌≡◌, ℕ, ◌<◌, inl, inr, true, ◌==◌, List, length, slice_get, Option, Some, sym, ap, subst, ◌∙◌}
use Rattle.std.proofs.lemmas.Bool.{eqb-true, eq-eqb}
use Rattle.std.proofs.lemmas.Option.{same_Some}
use Rattle.trace_model.specs.declared.traces.event.Event.{Event}
use Rattle.trace_model.specs.declared.traces.event.Op.TheVariants.{Fork, Join}
use Rattle.trace_model.specs.Theory.Trace.{Trace, At, event, Does}
use Rattle.trace_model.specs.Theory.Held.{begun_lock}
use Rattle.trace_model.specs.Theory.Reordering.{ForkOrJoin}
use Rattle.trace_model.specs.Theory.Refutation.{BeginOnOneLock}
use Rattle.trace_model.proofs.Theory.Begun.{begun_so, begun_from}
use Rattle.replay.proofs.Lists.{one_thread}

-- a place at a join that is not the fork of the join's thread or of the joined thread
pub joined_or_not : (s : Trace) (p q c : ℕ) (a b : Event) → At s p a → At s q b → b.op ≡ Join c →
    (a.op ≡ Fork b.thread → ⊥) → (a.op ≡ Fork c → ⊥) →
    ((a.thread == c) ≡ true → ForkOrJoin s p q) × (ForkOrJoin s p q → (a.thread == c) ≡ true)
joined_or_not s p q c a b at bt is own none = (so, from)
  where
    join : Does s q (Join c)
    join = (b.thread, bt ∙ ap (λ o. Some (event b.thread o)) is)

    so : (a.thread == c) ≡ true → ForkOrJoin s p q
    so h = inr (c, join, inr (a.op, at ∙ ap (λ t. Some (event t a.op)) (eqb-true a.thread c h)))

    operation : (t : ℕ) → Does s p (Fork t) → a.op ≡ Fork t
    operation t (u, e) = ap (λ x. x.op) (same_Some a (event u (Fork t)) (sym at ∙ e))

    joined : (d : ℕ) → Does s q (Join d) → c ≡ d
    joined d (u, e) = let same : Join c ≡ Join d = sym is ∙ ap (λ x. x.op) (same_Some b (event u (Join d)) (sym bt ∙ e)) in cc

    from : ForkOrJoin s p q → (a.thread == c) ≡ true
    from (inl (t, o, f)) = absurd (own (subst (λ x. a.op ≡ Fork x) (sym (one_thread s q b t bt o)) (operation t f)))
    from (inr (d, j, inl f)) = absurd (none (subst (λ x. a.op ≡ Fork x) (sym (joined d j)) (operation d f)))
    from (inr (d, j, inr o)) = eq-eqb a.thread c (one_thread s p a d at o ∙ sym (joined d j))

-- the table's entries at which sections begin on one lock
pub one_lock : (s : Trace) (begins : List (Option ℕ)) → ((q : ℕ) → q < length s → slice_get begins q ≡ Some (begun_lock s q)) →
    (a b : ℕ) → a < length s → b < length s →
    (((l : ℕ) × (slice_get begins a ≡ Some (Some l)) × (slice_get begins b ≡ Some (Some l))) → BeginOnOneLock s a b)
    × (BeginOnOneLock s a b → (l : ℕ) × (slice_get begins a ≡ Some (Some l)) × (slice_get begins b ≡ Some (Some l)))
one_lock s begins are a b la lb = (
  (λ (l, x, y). (l, begun_so s a l (same_Some (begun_lock s a) (Some l) (sym (are a la) ∙ x)), begun_so s b l (same_Some (begun_lock s b) (Some l) (sym (are b lb) ∙ y)))),
  λ (l, x, y). (l, are a la ∙ ap Some (begun_from s a l x), are b lb ∙ ap Some (begun_from s b l y)),
)
