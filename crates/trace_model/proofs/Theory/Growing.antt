-- A trace grows at its end.
use Rattle.std.proofs.Common.{◌≡◌, ℕ, inl, inr, [], ◌∷◌, ◌++◌, length, take, None, sym, ◌∙◌, arith}
use Rattle.std.proofs.lemmas.List.{take-append-le}
use Rattle.std.proofs.Math.Seq.{take-length}
use Rattle.std.proofs.lemmas.Option.{none-some, slice_get_within}
use Rattle.trace_model.specs.declared.traces.event.Event.{Event}
use Rattle.trace_model.specs.declared.limits.TheConstants.{MAX_EVENTS}
use Rattle.trace_model.specs.Theory.Trace.{Trace}
use Rattle.trace_model.specs.Theory.Lawful.{refusal_of, IsWellFormed}
use Rattle.trace_model.proofs.Lists.{get-push, get-take, get-take_past, take-take_below}

-- a prefix of a well-formed trace is well formed
pub well_formed_take : (s : Trace) (n : ℕ) → IsWellFormed s → IsWellFormed (take n s)
well_formed_take s n w p e h =
    let below = get-take_past n s p e h in
    rw (take-take_below p n s below) (w p e (sym (get-take n s p below) ∙ h))

pub well_formed_nil : IsWellFormed []
well_formed_nil p e h = absurd (none-some e h)

-- one more lawful event
pub well_formed_push : (s : Trace) (e : Event) → IsWellFormed s → refusal_of MAX_EVENTS s e ≡ None → IsWellFormed (s ++ e ∷ [])
well_formed_push s e w lawful_now p x h =
    elim (get-push s e p x h) [
      | inl k ↦ rw (take-append-le p s (e ∷ []) (omega (arith, slice_get_within s p x k))) (w p x k)
      | inr k ↦
          let whole : take p (s ++ e ∷ []) ≡ s = rw k.0 (take-append-le (length s) s (e ∷ []) (omega arith) ∙ take-length s) in
          rw (whole, ← k.1) lawful_now
    ]
