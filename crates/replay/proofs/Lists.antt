-- Lists of places, and the event at a place.
use Rattle.std.proofs.Common.{◌≡◌, ℕ, suc, ◌+◌, ◌⊎◌, inl, inr, Bool, true, false, not, List, [], ◌∷◌, ◌++◌, take, slice_get, Option, Some, refl, ap, sym, subst, ◌∙◌, arith}
use Rattle.std.proofs.lemmas.Bool.{false≢true}
use Rattle.std.proofs.lemmas.Option.{same_Some}
use Rattle.std.specs.List.{Contains}
use Rattle.trace_model.specs.declared.traces.event.Event.{Event}
use Rattle.trace_model.specs.declared.traces.event.Op.{Op}
use Rattle.trace_model.specs.Theory.Trace.{Trace, event, Does, OfThread}
use Rattle.trace_model.proofs.Lists.{take_next}
use Rattle.trace_model.proofs.Theory.Ascending.{listed, listed_contains, contains_listed}

-- The list up to one more item.
pub take_more : {X : Type 0} (xs : List X) (k : ℕ) (x : X) → slice_get xs k ≡ Some x → take (k + 1) xs ≡ take k xs ++ x ∷ []
take_more xs k x at = let up : k + 1 ≡ suc k = omega arith in ap (λ n. take n xs) up ∙ take_next k xs x at

-- It is in the list or not.
pub in_cases : (passed : List ℕ) (q : ℕ) → Contains passed q ⊎ (Contains passed q → ⊥)
in_cases passed q = go (listed passed q) refl
  where
    go : (b : Bool) → listed passed q ≡ b → Contains passed q ⊎ (Contains passed q → ⊥)
    go true e = inl (listed_contains passed q e)
    go false e = inr (λ c. false≢true (sym e ∙ contains_listed passed q c))

-- Double negation of membership in a list.
pub in_unless : (passed : List ℕ) (q : ℕ) → ((Contains passed q → ⊥) → ⊥) → Contains passed q
in_unless passed q h = elim (in_cases passed q) [ inl a ↦ a | inr b ↦ absurd (h b) ]

-- A test on the operation at a place decides a property of the place.
pub op_decided : (P : ℕ → Type 0) (o : ℕ → Op) → ((x y : ℕ) → o x ≡ o y → x ≡ y) → (s : Trace) (q : ℕ) (e : Event) (b : Bool) (x : ℕ) →
    slice_get s q ≡ Some e → e.op ≡ o x → (b ≡ true → P x) × (P x → b ≡ true) →
    (b ≡ true → (y : ℕ) × Does s q (o y) × P y) × ((y : ℕ) × Does s q (o y) × P y → b ≡ true)
op_decided P o same s q e b x at is h = (
  λ t. (x, (e.thread, at ∙ ap (λ y. Some (event e.thread y)) is), h.0 t),
  λ (y, (t, k), m). h.1 (subst P (sym (same x y (sym is ∙ ap (λ z. z.op) (same_Some e (event t (o y)) (sym at ∙ k))))) m),
)

pub op_undone : (P : ℕ → Type 0) (o : ℕ → Op) (s : Trace) (q : ℕ) (e : Event) → slice_get s q ≡ Some e → ((x : ℕ) → e.op ≡ o x → ⊥) →
    (false ≡ true → (y : ℕ) × Does s q (o y) × P y) × ((y : ℕ) × Does s q (o y) × P y → false ≡ true)
op_undone P o s q e at n =
    (λ h. absurd (false≢true h), λ (y, (t, k), m). absurd (n y (ap (λ z. z.op) (same_Some e (event t (o y)) (sym at ∙ k)))))

-- A place has one thread.
pub one_thread : (s : Trace) (q : ℕ) (e : Event) (t : ℕ) → slice_get s q ≡ Some e → OfThread s q t → e.thread ≡ t
one_thread s q e t at (o, h) = ap (λ z. z.thread) (same_Some e (event t o) (sym at ∙ h))

pub not_decided : (b : Bool) (P : Type 0) → (b ≡ true → P) × (P → b ≡ true) → (not b ≡ true → P → ⊥) × ((P → ⊥) → not b ≡ true)
not_decided true P h = (λ e. absurd (false≢true e), λ n. absurd (n (h.0 refl)))
not_decided false P h = (λ _ p. false≢true (h.1 p), λ _. refl)

-- The entry of a place in a table.
pub entry_is : (table items : List (Option ℕ)) (q : ℕ) (found want : Option ℕ) → table ≡ items → slice_get table q ≡ Some found → slice_get items q ≡ Some want → want ≡ found
entry_is table items q found want e f g = same_Some want found (sym g ∙ subst (λ xs. slice_get xs q ≡ Some found) e f)
