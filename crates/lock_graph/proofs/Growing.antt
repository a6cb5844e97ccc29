-- The graph with one more dependency.
use Rattle.std.proofs.Common.{◌≡◌, ℕ, zero, suc, ◌↔◌, Bool, true, false, cond, List, [], ◌∷◌, ◌++◌, length, slice_get, Some, refl, sym, ap, ◌∙◌, subst, inl, inr}
use Rattle.std.specs.Prelude.{nat_eq}
use Rattle.std.specs.List.{Contains, list_any}
use Rattle.std.specs.List.Sorted.{IsStrictlyIncreasing}
use Rattle.std.proofs.lemmas.Bool.{eqb-true, eq-eqb, false≢true, or_cases, or_left, or_right}
use Rattle.std.proofs.lemmas.Option.{slice_get_within, same_Some, none-some}
use Rattle.trace_model.specs.Theory.Dependencies.{Dependency}
use Rattle.trace_model.proofs.Lists.{get-push, get-push_kept, get-push_last}
use Rattle.trace_model.proofs.Theory.Unique.{Has, has_contained, contains_had}
use Rattle.dependencies.proofs.Noting.{push_increases}
use Rattle.lock_graph.specs.Lists.{listed_with}
use Rattle.lock_graph.specs.Graph.{HoldsLock, IsGraphOf}

any-has : (lock : ℕ) (locks : List ℕ) → list_any (λ l. nat_eq l lock) locks ≡ true → Has locks lock
any-has lock [] h = absurd (false≢true h)
any-has lock (x ∷ xs) h =
    let more : list_any (λ l. nat_eq l lock) xs ≡ true → Has xs lock = any-has lock xs in
    elim (or_cases (nat_eq x lock) (list_any (λ l. nat_eq l lock) xs) h) [
      | inl a ↦ (zero, ap Some (eqb-true x lock a))
      | inr b ↦ (suc (more b).0, (more b).1)
    ]

has-any : (lock : ℕ) (locks : List ℕ) (k : ℕ) → slice_get locks k ≡ Some lock → list_any (λ l. nat_eq l lock) locks ≡ true
has-any lock [] k h = absurd (none-some lock h)
has-any lock (x ∷ xs) zero h = or_left (nat_eq x lock) (list_any (λ l. nat_eq l lock) xs) (eq-eqb x lock (same_Some x lock h))
has-any lock (x ∷ xs) (suc k) h = or_right (nat_eq x lock) (list_any (λ l. nat_eq l lock) xs) (has-any lock xs k h)

module _ (ds : List Dependency) (d : Dependency) (old : ℕ → List ℕ) (g : IsGraphOf ds old) (lock : ℕ) where
  kept : (n : ℕ) → HoldsLock ds n lock → HoldsLock (ds ++ d ∷ []) n lock
  kept n (e, x, y) = (e, get-push_kept ds d n e x, y)

  forth : (b : Bool) → list_any (λ l. nat_eq l lock) d.held ≡ b → (n : ℕ) → Contains (cond b (old lock ++ length ds ∷ []) (old lock)) n → HoldsLock (ds ++ d ∷ []) n lock
  forth false h n c = kept n ((g.exact lock n).0 c)
  forth true h n c =
      let k = has_contained (old lock ++ length ds ∷ []) n c in
      elim (get-push (old lock) (length ds) k.0 n k.1) [
        | inl u ↦ kept n ((g.exact lock n).0 (contains_had (old lock) n (k.0, u)))
        | inr u ↦ (d, subst (λ i. slice_get (ds ++ d ∷ []) i ≡ Some d) u.1 (get-push_last ds d), contains_had d.held lock (any-has lock d.held h))
      ]

  back : (b : Bool) → list_any (λ l. nat_eq l lock) d.held ≡ b → (n : ℕ) → HoldsLock (ds ++ d ∷ []) n lock → Contains (cond b (old lock ++ length ds ∷ []) (old lock)) n
  back false h n (e, x, y) = elim (get-push ds d n e x) [
    | inl u ↦ (g.exact lock n).1 (e, u, y)
    | inr u ↦ let k = has_contained d.held lock (subst (λ z. Contains z.held lock) (sym u.1) y) in absurd (false≢true (sym h ∙ has-any lock d.held k.0 k.1))
  ]
  back true h n (e, x, y) = elim (get-push ds d n e x) [
    | inl u ↦
        let k = has_contained (old lock) n ((g.exact lock n).1 (e, u, y)) in
        contains_had (old lock ++ length ds ∷ []) n (k.0, get-push_kept (old lock) (length ds) k.0 n k.1)
    | inr u ↦ contains_had (old lock ++ length ds ∷ []) n (length (old lock), get-push_last (old lock) (length ds) ∙ ap Some (sym u.0))
  ]

  rises : (b : Bool) → IsStrictlyIncreasing (cond b (old lock ++ length ds ∷ []) (old lock))
  rises false = g.ascends lock
  rises true = push_increases (old lock) (length ds) (g.ascends lock) (λ m c. let k = (g.exact lock m).0 c in slice_get_within ds m k.0 k.1)

  pub exact-more : (n : ℕ) → Contains (listed_with d.held (length ds) lock (old lock)) n ↔ HoldsLock (ds ++ d ∷ []) n lock
  exact-more n = (forth (list_any (λ l. nat_eq l lock) d.held) refl n, back (list_any (λ l. nat_eq l lock) d.held) refl n)

  pub rises-more : IsStrictlyIncreasing (listed_with d.held (length ds) lock (old lock))
  rises-more = rises (list_any (λ l. nat_eq l lock) d.held)

pub graph-more : (ds : List Dependency) (d : Dependency) (number : ℕ) (old new : ℕ → List ℕ) → number ≡ length ds →
    ((lock : ℕ) → new lock ≡ listed_with d.held number lock (old lock)) → IsGraphOf ds old → IsGraphOf (ds ++ d ∷ []) new
graph-more ds d number old new e step g = record {
  exact = λ lock n. subst (λ xs. Contains xs n ↔ HoldsLock (ds ++ d ∷ []) n lock) (sym (is lock)) (exact-more ds d old g lock n);
  ascends = λ lock. subst (λ xs. IsStrictlyIncreasing xs) (sym (is lock)) (rises-more ds d old g lock);
}
  where
    is : (lock : ℕ) → new lock ≡ listed_with d.held (length ds) lock (old lock)
    is lock = step lock ∙ ap (λ n. listed_with d.held n lock (old lock)) e
