-- A list is a reordering exactly if each of its places may come next after those before it.
use Rattle.std.proofs.Common.{◌≡◌, ℕ, ◌<◌, inl, inr, List, take, slice_get, Option, Some, None, MatchOption, sym, ◌∙◌, arith}
use Rattle.std.proofs.lemmas.Bool.{cases_lt}
use Rattle.std.specs.List.{Contains}
use Rattle.trace_model.specs.declared.traces.event.Op.TheVariants.{Acquire, Release, Write}
use Rattle.trace_model.specs.Theory.Trace.{Trace, Does}
use Rattle.trace_model.specs.Theory.Lookups.{writer}
use Rattle.trace_model.specs.Theory.Reordering.{Before, LastWrite, IsReordering}
use Rattle.trace_model.specs.Theory.Walk.{LastIn, Walks}
use Rattle.trace_model.proofs.Theory.Lookups.{release_of_acquire}
use Rattle.trace_model.proofs.Theory.Ascending.{place_of, contains_at}
use Rattle.trace_model.proofs.Lists.{get-take, get-take_past}

pub front_so : (order : List ℕ) (k p : ℕ) → Contains (take k order) p → (i : ℕ) × (i < k) × (slice_get order i ≡ Some p)
front_so order k p c =
    let (i, h) = place_of (take k order) p c in
    let low = get-take_past k order i p h in
    (i, low, sym (get-take k order i low) ∙ h)

pub front_from : (order : List ℕ) (k p i : ℕ) → i < k → slice_get order i ≡ Some p → Contains (take k order) p
front_from order k p i low h = contains_at (take k order) p i (get-take k order i low ∙ h)

pub before_front : (order : List ℕ) (k p q : ℕ) → slice_get order k ≡ Some q → Contains (take k order) p → Before order p q
before_front order k p q h c = let r = front_so order k p c in (r.0, k, r.1, r.2, h)

abbrev pub Distinct : List ℕ → Type 0
Distinct order = (i j q : ℕ) → slice_get order i ≡ Some q → slice_get order j ≡ Some q → i ≡ j

pub front_before : (order : List ℕ) → Distinct order → (k p q : ℕ) → slice_get order k ≡ Some q → Before order p q → Contains (take k order) p
front_before order d k p q h (i, j, l, a, b) = front_from order k p i (omega (arith, l, d j k q b h)) a

pub walk_distinct : (s : Trace) (order : List ℕ) → Walks s order → Distinct order
walk_distinct s order w i j q a b =
    elim (cases_lt i j) [
      | inl l ↦ absurd ((w j q b).new (front_from order j q i l a))
      | inr l ↦ elim (cases_lt j i) [
        | inl m ↦ absurd ((w i q a).new (front_from order i q j m b))
        | inr m ↦ omega arith
      ]
    ]

pub walk_reorders : (s : Trace) (order : List ℕ) → Walks s order → IsReordering s order
walk_reorders s order w = record {
  in_trace = λ q c. let (k, h) = place_of order q c in (w k q h).in_trace;
  distinct = walk_distinct s order w;
  threads = λ p q c e. let (k, h) = place_of order q c in before_front order k p q h ((w k q h).threads p e);
  forks_joins = λ p q c e. let (k, h) = place_of order q c in before_front order k p q h ((w k q h).forks_joins p e);
  writers = λ q v c d. let (k, h) = place_of order q c in written k q v h (writer s q) ((w k q h).writers v d);
  sections = λ p q l a b before.
      let (i, j, low, x, y) = before in
      let (r, is, c) = (w j q y).sections p l a b (front_from order j p i low x) in
      let (m, n, z) = front_so order j r c in
      let (after, ends, none) = release_of_acquire s p a.0 l r a.1 is in (
        r,
        is,
        before_front order m p r z ((w m r z).threads p (a.0, (Acquire l, a.1.0), (Release l, ends.0), after)),
        (m, j, n, z, y),
      );
  lock_order = λ p q l a b before. let (i, j, low, x, y) = before in (w j q y).lock_order p l a b (front_from order j p i low x);
}
  where
    dist : Distinct order
    dist = walk_distinct s order w

    written : (k q v : ℕ) → slice_get order k ≡ Some q → (o : Option ℕ) →
        MatchOption o ((u : ℕ) → Does s u (Write v) → Contains (take k order) u → ⊥) (LastIn s (take k order) v) →
        MatchOption o ((u : ℕ) → Does s u (Write v) → Before order u q → ⊥) (LastWrite s order v q)
    written k q v h None f = λ u d before. f u d (front_before order dist k u q h before)
    written k q v h (Some x) f = (
      before_front order k x q h f.0,
      λ u d (i, j, l, a, b) before.
          let low : j < k = (let r = front_so order k u (front_before order dist k u q h before) in omega (arith, r.1, dist j r.0 u b r.2)) in
          f.1 u d (i, j, l, get-take k order i (omega arith) ∙ a, get-take k order j low ∙ b),
    )

pub reordering_walks : (s : Trace) (order : List ℕ) → IsReordering s order → Walks s order
reordering_walks s order r k q h = record {
  in_trace = r.in_trace q inside;
  new = λ c. let x = front_so order k q c in omega (arith, x.1, r.distinct x.0 k q x.2 h);
  threads = λ p e. front_before order r.distinct k p q h (r.threads p q inside e);
  forks_joins = λ p e. front_before order r.distinct k p q h (r.forks_joins p q inside e);
  writers = λ v d. written v (writer s q) (r.writers q v inside d);
  sections = λ p l a b c.
      let x = r.sections p q l a b (before_front order k p q h c) in
      (x.0, x.1, front_before order r.distinct k x.0 q h x.3);
  lock_order = λ p l a b c. r.lock_order p q l a b (before_front order k p q h c);
}
  where
    inside : Contains order q
    inside = contains_at order q k h

    written : (v : ℕ) → (o : Option ℕ) →
        MatchOption o ((u : ℕ) → Does s u (Write v) → Before order u q → ⊥) (LastWrite s order v q) →
        MatchOption o ((u : ℕ) → Does s u (Write v) → Contains (take k order) u → ⊥) (LastIn s (take k order) v)
    written v None f = λ u d c. f u d (before_front order k u q h c)
    written v (Some x) f = (
      front_before order r.distinct k x q h f.0,
      λ u d (i, j, l, a, b).
          let low = get-take_past k order j u b in
          f.1 u d (i, j, l, sym (get-take k order i (omega arith)) ∙ a, sym (get-take k order j low) ∙ b)
          (before_front order k u q h (contains_at (take k order) u j b)),
    )
