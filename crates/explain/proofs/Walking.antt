-- A walk back along a thread.
use Rattle.std.proofs.Common.{◌≡◌, ℕ, ◌<◌, Some, None, sym, ap, ◌∙◌}
use Rattle.std.specs.Option.{option_and_then}
use Rattle.trace_model.specs.Theory.Trace.{Trace, OfThread, last_place}
use Rattle.trace_model.proofs.Theory.Places.{last_place_some, last_place_none}
use Rattle.trace_model.proofs.Theory.Computed.{of_thread_from}
use Rattle.trace_model.proofs.Theory.Derivable.{of_thread_so}
use Rattle.trace_index.specs.Numbers.{of_thread, thread_before}

pub before_some : (s : Trace) (t p n : ℕ) → OfThread s p t → thread_before s p ≡ Some n →
    OfThread s n t × (n < p) × ((u : ℕ) → n < u → u < p → OfThread s u t → ⊥)
before_some s t p n (o, at) e =
    let k : last_place (of_thread s t) p ≡ Some n = sym (ap (option_and_then (λ x. last_place (of_thread s x.thread) p)) at) ∙ e in
    let m = last_place_some (of_thread s t) p n k in
    (of_thread_so s t n m.1, m.0, λ u a b h. m.2 u a b (of_thread_from s t u h))

pub before_none : (s : Trace) (t p : ℕ) → OfThread s p t → thread_before s p ≡ None → (u : ℕ) → u < p → OfThread s u t → ⊥
before_none s t p (o, at) e u l h =
    let k : last_place (of_thread s t) p ≡ None = sym (ap (option_and_then (λ x. last_place (of_thread s x.thread) p)) at) ∙ e in
    last_place_none (of_thread s t) p k u l (of_thread_from s t u h)
