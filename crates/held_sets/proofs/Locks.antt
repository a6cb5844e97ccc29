-- One more lock in an ascending list.
use Rattle.std.proofs.Common.{◌≡◌, ℕ, zero, suc, ◌+◌, ◌<◌, ◌≤◌, Bool, true, false, cond, ◌==◌, ltb, List, [], ◌∷◌, length, get_or, insert, refl, sym, ap, ◌∙◌, arith}
use Rattle.std.proofs.lemmas.Bool.{eqb-true, eq-eqb, ltb-true, ltb-false, false≢true, or_parts}
use Rattle.std.specs.List.{list_any}
use Rattle.std.specs.List.Sorted.{IsStrictlyIncreasing}
use Rattle.std.specs.Prelude.{Some, Contains}
use Rattle.trace_model.proofs.Lists.{some_passes, passes_some}
use Rattle.trace_model.proofs.Theory.Ascending.{place_of, contains_at}
use Rattle.trace_model.specs.Theory.Held.{has, with_lock}
use Rattle.trace_model.proofs.Theory.HeldAscends.{Ascends, with_ascends, increasing_from}

pub ascends_from : (xs : List ℕ) → IsStrictlyIncreasing xs → Ascends xs
ascends_from [] h = tt
ascends_from (x ∷ []) h = (tt, tt)
ascends_from (x ∷ y ∷ ys) h = (h 0 (omega arith), ascends_from (y ∷ ys) (λ k l. let e : suc k + 1 ≡ suc (k + 1) = omega arith in rw e at (h (suc k) (omega arith))))

pub with_increases : (l : ℕ) (xs : List ℕ) → IsStrictlyIncreasing xs → IsStrictlyIncreasing (with_lock l xs)
with_increases l xs h = increasing_from _ (with_ascends l xs (ascends_from xs h))

-- inserting before the first greater lock is `with_lock`
pub insert_is_with : (l : ℕ) (xs : List ℕ) (i : ℕ) → i ≤ length xs → ((k : ℕ) → k < i → get_or xs k 0 ≤ l) → (i < length xs → l < get_or xs i 0) →
    has l xs ≡ false → insert xs i l ≡ with_lock l xs
insert_is_with l [] zero w b a n = refl
insert_is_with l [] (suc i) w b a n = absurd (omega arith)
insert_is_with l (x ∷ xs) zero w b a n = go (ltb l x) refl
  where
    go : (c : Bool) → ltb l x ≡ c → l ∷ x ∷ xs ≡ cond c (l ∷ x ∷ xs) (cond (l == x) (x ∷ xs) (x ∷ with_lock l xs))
    go true e = refl
    go false e = let above = a (omega arith) in let le = ltb-false l x e in absurd (omega arith)
insert_is_with l (x ∷ xs) (suc i) w b a n =
    let parts = or_parts (x == l) (list_any (λ k. k == l) xs) n in
    go (insert_is_with l xs i (omega arith) (λ k lt. b (suc k) (omega arith)) (λ lt. a (omega arith)) parts.1) (ltb l x) refl (l == x) refl
  where
    go : insert xs i l ≡ with_lock l xs → (c : Bool) → ltb l x ≡ c → (d : Bool) → (l == x) ≡ d →
        x ∷ insert xs i l ≡ cond c (l ∷ x ∷ xs) (cond d (x ∷ xs) (x ∷ with_lock l xs))
    go more true e d f = let le = b 0 (omega arith) in let lt = ltb-true l x e in absurd (omega arith)
    go more false e true f = absurd (false≢true (sym (or_parts (x == l) (list_any (λ k. k == l) xs) n).0 ∙ eq-eqb x l (sym (eqb-true l x f))))
    go more false e false f = ap (λ ys. x ∷ ys) more

-- the test of membership is membership
pub has_contains : (l : ℕ) (xs : List ℕ) → has l xs ≡ true → Contains xs l
has_contains l xs h = let p = some_passes (λ k. k == l) xs h in contains_at xs l p.0 (p.2 ∙ ap Some (eqb-true p.1 l p.3))

pub contains_has : (l : ℕ) (xs : List ℕ) → Contains xs l → has l xs ≡ true
contains_has l xs c = let p = place_of xs l c in passes_some (λ k. k == l) xs p.0 l p.1 (eq-eqb l l refl)
