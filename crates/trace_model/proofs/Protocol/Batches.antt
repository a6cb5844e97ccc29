-- Lemmas of batches.
use Rattle.std.proofs.Common.{◌≡◌, ℕ, zero, suc, ◌≤◌, inl, inr, List, [], ◌∷◌, ◌++◌, length, take, Option, None, Some, refl, sym, ap, subst, ◌∙◌, append_assoc, arith}
use Rattle.std.specs.Prelude.{MatchOption, slice_get}
use Rattle.std.proofs.lemmas.List.{append-nil, take-append-le}
use Rattle.std.proofs.Math.Seq.{take-length}
use Rattle.std.proofs.lemmas.Option.{none-some, same_Some, slice_get_within}
use Rattle.trace_model.specs.declared.traces.event.Event.{Event}
use Rattle.trace_model.specs.declared.limits.TheConstants.{MAX_EVENTS}
use Rattle.trace_model.specs.Theory.Trace.{Trace}
use Rattle.trace_model.specs.Theory.Lawful.{refusal_of, IsWellFormed}
use Rattle.trace_model.specs.declared.refusal.Refusal.{Refusal}
use Rattle.trace_model.specs.Protocol.Batches.{AreLawful, BatchesAreLongest, IsLongest, taken_of, taken_then}
use Rattle.trace_model.proofs.Lists.{by_pushes, get-push, get-push_kept, get-push_last, length-push, take-push}
use Rattle.trace_model.proofs.Theory.OneMore.{lawful_room, well_formed_push_at}

pub lawful_nil : (limit : ℕ) (s : Trace) → AreLawful limit s []
lawful_nil limit s k e h = absurd (none-some e h)

-- one more lawful event
pub lawful_more : (limit : ℕ) (s : Trace) (xs : List Event) (e : Event) → AreLawful limit s xs → refusal_of limit (s ++ xs) e ≡ None → AreLawful limit s (xs ++ e ∷ [])
lawful_more limit s xs e before now k x h =
    elim (get-push xs e k x h) [
      | inl at ↦ rw (take-append-le k xs (e ∷ []) (omega (arith, slice_get_within xs k x at))) (before k x at)
      | inr at ↦
          let whole : take k (xs ++ e ∷ []) ≡ xs = rw at.0 (take-append-le (length xs) xs (e ∷ []) (omega arith) ∙ take-length xs) in
          rw (whole, ← at.1) now
    ]

-- a lawful event alone
pub lawful_one : (limit : ℕ) (s : Trace) (e : Event) → refusal_of limit s e ≡ None → AreLawful limit s (e ∷ [])
lawful_one limit s e h = lawful_more limit s [] e (lawful_nil limit s) (rw (append-nil s) h)

-- of lawful events the last one is lawful after the others, which are lawful too
pub lawful_parts : (limit : ℕ) (s : Trace) (xs : List Event) (e : Event) → AreLawful limit s (xs ++ e ∷ []) → AreLawful limit s xs × (refusal_of limit (s ++ xs) e ≡ None)
lawful_parts limit s xs e all = (
  λ k x at. subst (λ (r : List Event). refusal_of limit (s ++ r) x ≡ None) (take-append-le k xs (e ∷ []) (omega (arith, slice_get_within xs k x at))) (all k x (get-push_kept xs e k x at)),
  subst (λ (r : List Event). refusal_of limit (s ++ r) e ≡ None) (take-push xs e) (all (length xs) e (get-push_last xs e)),
)

abbrev Grows : ℕ → Trace → List Event → Type 0
Grows limit s es = AreLawful limit s es → IsWellFormed (s ++ es) × (length (s ++ es) ≤ limit)

-- a well-formed trace with more lawful events is well formed, and within its limit
pub well_formed_more : (limit : ℕ) (s : Trace) (es : List Event) → limit ≤ MAX_EVENTS → length s ≤ limit → IsWellFormed s → AreLawful limit s es →
    IsWellFormed (s ++ es) × (length (s ++ es) ≤ limit)
well_formed_more limit s es most within w = by_pushes (Grows limit s) none more es
  where
    none : Grows limit s []
    none all = rw (append-nil s) (w, within)

    more : (xs : List Event) (e : Event) → Grows limit s xs → Grows limit s (xs ++ e ∷ [])
    more xs e before all =
        let parts = lawful_parts limit s xs e all in
        let grown = before parts.0 in
        subst (λ (r : Trace). IsWellFormed r × (length r ≤ limit)) (append_assoc s xs (e ∷ [])) (
          well_formed_push_at limit (s ++ xs) e most grown.0 parts.1,
          omega (arith, length-push (s ++ xs) e, lawful_room limit (s ++ xs) e parts.1),
        )

-- ---- up to the first that is not lawful

-- a lawful event before others that are lawful after it
pub lawful_first : (limit : ℕ) (s : Trace) (e : Event) (es : List Event) → refusal_of limit s e ≡ None → AreLawful limit (s ++ e ∷ []) es → AreLawful limit s (e ∷ es)
lawful_first limit s e es now later zero x h =
    let is : e ≡ x = same_Some e x h in
    rw (append-nil s, ← is) now
lawful_first limit s e es now later (suc k) x h = subst (λ (r : Trace). refusal_of limit r x ≡ None) (append_assoc s (e ∷ []) (take k es)) (later k x h)

-- the refusal of the rest is the refusal of all
ends_later : (limit : ℕ) (s : Trace) (e : Event) (es : List Event) (n : ℕ) (o : Option Refusal) → IsLongest limit (s ++ e ∷ []) es (n, o) → refusal_of limit s e ≡ None →
    IsLongest limit s (e ∷ es) (suc n, o)
ends_later limit s e es n None h now = record { lawful = lawful_first limit s e (take n es) now h.lawful; ends = ap suc h.ends }
ends_later limit s e es n (Some r) h now = record {
  lawful = lawful_first limit s e (take n es) now h.lawful;
  ends = let (x, at, why) = h.ends in (x, at, subst (λ (t : Trace). refusal_of limit t x ≡ Some r) (append_assoc s (e ∷ []) (take n es)) why);
}

pub is_longest : (limit : ℕ) (s : Trace) (events : List Event) → IsLongest limit s events (taken_of limit s events)
is_longest limit s [] = record { lawful = lawful_nil limit s; ends = refl }
is_longest limit s (e ∷ es) = first (refusal_of limit s e) refl (is_longest limit (s ++ e ∷ []) es)
  where
    first : (o : Option Refusal) → refusal_of limit s e ≡ o → IsLongest limit (s ++ e ∷ []) es (taken_of limit (s ++ e ∷ []) es) →
        IsLongest limit s (e ∷ es) (taken_then o (taken_of limit (s ++ e ∷ []) es))
    first (Some r) is others = record { lawful = lawful_nil limit s; ends = (e, refl, rw (append-nil s) is) }
    first None is others = ends_later limit s e es (taken_of limit (s ++ e ∷ []) es).0 (taken_of limit (s ++ e ∷ []) es).1 others is

-- the refusal of all is the refusal of the rest
ends_others : (limit : ℕ) (s : Trace) (e : Event) (es : List Event) (n : ℕ) (o : Option Refusal) → IsLongest limit s (e ∷ es) (suc n, o) → IsLongest limit (s ++ e ∷ []) es (n, o)
ends_others limit s e es n o h = record {
  lawful = λ k x at. subst (λ (r : Trace). refusal_of limit r x ≡ None) (sym (append_assoc s (e ∷ []) (take k (take n es)))) (h.lawful (suc k) x at);
  ends = by o h.ends;
}
  where
    Ends : Trace → List Event → ℕ → Option Refusal → Type 0
    Ends t all m p = MatchOption p (m ≡ length all) (λ refusal. (x : Event) × (slice_get all m ≡ Some x) × (refusal_of limit (t ++ take m all) x ≡ Some refusal))

    by : (p : Option Refusal) → Ends s (e ∷ es) (suc n) p → Ends (s ++ e ∷ []) es n p
    by None all = omega (arith, all)
    by (Some r) (x, at, why) = (x, at, subst (λ (t : Trace). refusal_of limit t x ≡ Some r) (sym (append_assoc s (e ∷ []) (take n es))) why)

pub longest_is : (limit : ℕ) (s : Trace) (events : List Event) (n : ℕ) (o : Option Refusal) → IsLongest limit s events (n, o) → taken_of limit s events ≡ (n, o)
longest_is limit s [] n None h = ap (λ (k : ℕ). (k, None)) (sym h.ends)
longest_is limit s [] n (Some r) h = let (x, at, why) = h.ends in absurd (none-some x at)
longest_is limit s (e ∷ es) zero None h = absurd (omega (arith, h.ends))
longest_is limit s (e ∷ es) zero (Some r) h =
    let (x, at, why) = h.ends in
    let is : refusal_of limit s e ≡ Some r = rw (← append-nil s, same_Some e x at) why in
    ap (λ (p : Option Refusal). taken_then p (taken_of limit (s ++ e ∷ []) es)) is
longest_is limit s (e ∷ es) (suc n) o h =
    let is : refusal_of limit s e ≡ None = rw (← append-nil s) (h.lawful 0 e refl) in
    ap (λ (p : Option Refusal). taken_then p (taken_of limit (s ++ e ∷ []) es)) is
    ∙ ap (taken_then None) (longest_is limit (s ++ e ∷ []) es n o (ends_others limit s e es n o h))

pub batches_are_longest : BatchesAreLongest
batches_are_longest limit s events taken = (
  λ is. subst (IsLongest limit s events) is (is_longest limit s events),
  λ h. longest_is limit s events taken.0 taken.1 h,
)
