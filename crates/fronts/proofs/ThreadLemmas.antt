-- The places of a thread by their number.
use Rattle.std.proofs.Common.{◌≡◌, ℕ, zero, suc, ◌-◌, ◌<◌, inl, inr, Bool, true, false, cond, ◌++◌, ◌∷◌, [], length, slice_get, Some, sym, ap, ◌∙◌, arith}
use Rattle.std.proofs.lemmas.Bool.{cases_lt}
use Rattle.std.proofs.lemmas.Option.{none-some, slice_get_within}
use Rattle.trace_model.specs.Theory.Trace.{Trace, event, OfThread}
use Rattle.trace_model.specs.Theory.Closure.{Places, ascending_places}
use Rattle.trace_model.proofs.Lists.{get-push}
use Rattle.trace_model.proofs.Theory.Ascending.{ascending_so}
use Rattle.segments.specs.Linking.{count_below}
use Rattle.segments.proofs.Counting.{length_ascending}
use Rattle.trace_index.specs.Numbers.{of_thread, earlier_events}
use Rattle.fronts.specs.Threads.{IsNumbered, IsLastOfThread}
use Rattle.fronts.proofs.Counts.{count_lt}
use Rattle.trace_model.proofs.Theory.Computed.{of_thread_from}
use Rattle.trace_model.proofs.Theory.Derivable.{of_thread_so}

-- A place is listed at its number.
listed_at : (f : Places) (n k q : ℕ) → slice_get (ascending_places f n) k ≡ Some q → count_below f q ≡ k
listed_at f zero k q h = absurd (none-some q h)
listed_at f (suc n) k q h = go (listed_at f n k q) (f n) h
  where
    go : (slice_get (ascending_places f n) k ≡ Some q → count_below f q ≡ k) → (b : Bool) →
        slice_get (cond b (ascending_places f n ++ n ∷ []) (ascending_places f n)) k ≡ Some q → count_below f q ≡ k
    go more false e = more e
    go more true e = elim (get-push (ascending_places f n) n k q e) [
      | inl before ↦ more before
      | inr last ↦ ap (count_below f) (sym last.1) ∙ sym (length_ascending f n) ∙ sym last.0
    ]

pub place_below : (s : Trace) (t p : ℕ) → OfThread s p t → p < length s
place_below s t p (o, at) = slice_get_within s p (event t o) at

pub numbered_at : (s : Trace) (t k q : ℕ) → slice_get (ascending_places (of_thread s t) (length s)) k ≡ Some q → IsNumbered s t k q
numbered_at s t k q h =
    (of_thread_so s t q (ascending_so (of_thread s t) (length s) k q h).1, listed_at (of_thread s t) (length s) k q h)

earlier_below : (s : Trace) (t p : ℕ) → OfThread s p t → earlier_events s t p < length (ascending_places (of_thread s t) (length s))
earlier_below s t p o =
    let less = count_lt (of_thread s t) p (length s) (place_below s t p o) (of_thread_from s t p o) in
    let all = length_ascending (of_thread s t) (length s) in
    omega arith

pub none_listed : (s : Trace) (t : ℕ) → length (ascending_places (of_thread s t) (length s)) ≡ 0 → (p : ℕ) → OfThread s p t → ⊥
none_listed s t none p o = let less = earlier_below s t p o in omega arith

pub last_listed : (s : Trace) (t q : ℕ) → slice_get (ascending_places (of_thread s t) (length s)) (length (ascending_places (of_thread s t) (length s)) - 1) ≡ Some q → IsLastOfThread s t q
last_listed s t q h =
    let is = numbered_at s t (length (ascending_places (of_thread s t) (length s)) - 1) q h in (
      is.0,
      λ p o. elim (cases_lt q p) [
        | inl above ↦
            let more = count_lt (of_thread s t) q p above (of_thread_from s t q is.0) in
            let less = earlier_below s t p o in
            let number = is.1 in
            absurd (omega arith)
        | inr below ↦ omega (arith, below)
      ],
    )
