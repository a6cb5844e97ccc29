-- Of two reached instances, the lesser of the two is reached.
use Rattle.std.proofs.Common.{◌≡◌, ℕ, zero, suc, inl, inr, min, ◌&&◌, List, [], ◌∷◌, slice_get, Some, refl, sym, ap, subst, ◌∙◌, arith}
use Rattle.std.proofs.lemmas.Bool.{cases_lt, and_parts, and_from}
use Rattle.std.proofs.lemmas.Option.{none-some, same_Some}
use Rattle.std.specs.List.{Contains}
use Rattle.trace_model.specs.Theory.Trace.{Trace, event, OfThread, EarlierInThread}
use Rattle.trace_model.specs.Theory.Lawful.{IsWellFormed}
use Rattle.trace_model.specs.Theory.Reordering.{AreReached}
use Rattle.trace_model.specs.Theory.Laws.{lesser, OfSameThreads}
use Rattle.trace_model.proofs.Theory.Ascending.{place_of, contains_at, listed, listed_contains}
use Rattle.trace_model.proofs.Theory.Existence.{reordering_closes, reaching_holds}
use Rattle.trace_model.proofs.Theory.Stability.{both_closed, reached_from}

pub lesser_at : (xs ys : List ℕ) (k p : ℕ) → slice_get (lesser xs ys) k ≡ Some p →
    (x : ℕ) × (y : ℕ) × (slice_get xs k ≡ Some x) × (slice_get ys k ≡ Some y) × (min x y ≡ p)
lesser_at (x ∷ xs) (y ∷ ys) zero p h = (x, y, refl, refl, same_Some (min x y) p h)
lesser_at (x ∷ xs) (y ∷ ys) (suc k) p h = lesser_at xs ys k p h
lesser_at (x ∷ xs) [] k p h = absurd (none-some p h)
lesser_at [] ys k p h = absurd (none-some p h)

pub at_thread : (s : Trace) (p t u : ℕ) → OfThread s p t → OfThread s p u → t ≡ u
at_thread s p t u (a, h) (b, k) = ap (λ e. e.thread) (same_Some (event t a) (event u b) (sym h ∙ k))

-- earlier in the thread of the lesser, so in that of both
pub earlier_both : (s : Trace) (q x y p : ℕ) → (t : ℕ) × OfThread s x t × OfThread s y t → min x y ≡ p →
    EarlierInThread s q p → EarlierInThread s q x × EarlierInThread s q y
earlier_both s q x y p (t, a, b) m (u, c, d, l) =
    elim (cases_lt x y) [
      | inl z ↦ let e : p ≡ x = omega arith in
          let f : u ≡ t = at_thread s x u t (subst (λ v. OfThread s v u) e d) a in
          let g = subst (OfThread s q) f c in
          ((t, g, a, omega arith), (t, g, b, omega arith))
      | inr z ↦ let e : p ≡ y = omega arith in
          let f : u ≡ t = at_thread s y u t (subst (λ v. OfThread s v u) e d) b in
          let g = subst (OfThread s q) f c in
          ((t, g, a, omega arith), (t, g, b, omega arith))
    ]

pub lesser_reached : (s : Trace) → IsWellFormed s → (xs ys : List ℕ) → OfSameThreads s xs ys →
    AreReached s xs → AreReached s ys → AreReached s (lesser xs ys)
lesser_reached s w xs ys same (a, oa, ra) (b, ob, rb) =
    reached_from s w (lesser xs ys) (λ q. listed a q && listed b q)
    (both_closed s (listed a) (listed b) (reordering_closes s a oa) (reordering_closes s b ob))
    (λ p q c e.
    let (k, h) = place_of (lesser xs ys) p c in
    let (x, y, hx, hy, m) = lesser_at xs ys k p h in
    let both = earlier_both s q x y p (same k x y hx hy) m e in
    and_from (listed a q) (listed b q)
    (reaching_holds s a xs ra x q (contains_at xs x k hx) both.0)
    (reaching_holds s b ys rb y q (contains_at ys y k hy) both.1))
    (λ p c h.
    let (k, i) = place_of (lesser xs ys) p c in
    let (x, y, hx, hy, m) = lesser_at xs ys k p i in
    let z = and_parts (listed a p) (listed b p) h in
    elim (cases_lt x y) [
      | inl l ↦ let e : p ≡ x = omega arith in
          (ra x (contains_at xs x k hx)).0 (subst (Contains a) e (listed_contains a p z.0))
      | inr l ↦ let e : p ≡ y = omega arith in
          (rb y (contains_at ys y k hy)).0 (subst (Contains b) e (listed_contains b p z.1))
    ])
