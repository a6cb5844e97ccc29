-- There is one list of rows for a trace, a bound and a first number.
use Rattle.std.proofs.Common.{◌≡◌, ℕ, zero, suc, ◌+◌, ◌<◌, inl, inr, List, [], ◌∷◌, length, map, drop, slice_get, Option, Some, None, refl, sym, ap, subst, ◌∙◌, arith}
use Rattle.std.proofs.lemmas.List.Elements.{All-head, All-tail, All-nil, All-cons}
use Rattle.std.proofs.lemmas.List.Kept.{AllPairs-from_increasing}
use Rattle.std.proofs.lemmas.Option.{none-some, same_Some, slice_get_within, slice_get-get_or, get_or_from_slice_get}
use Rattle.std.specs.List.{Contains, All}
use Rattle.std.specs.List.Sorted.{IsStrictlyIncreasing}
use Rattle.trace_model.specs.Theory.Trace.{Trace}
use Rattle.trace_model.specs.Theory.Dependencies.{dependencies}
use Rattle.trace_model.specs.Theory.Cycles.{ListBelow, AreCyclesFrom}
use Rattle.trace_model.specs.Theory.Lawful.{IsWellFormed}
use Rattle.trace_model.specs.Theory.Reordering.{AreReached}
use Rattle.trace_model.specs.Theory.Closure.{Places, IsClosure, ascending_places}
use Rattle.trace_model.proofs.Theory.Ascending.{ascending_increases, ascending_contains}
use Rattle.trace_model.proofs.Theory.Existence.{existence, closed_reorders, closed_reaches, closure_closes, closure_holds, closure_in_every}
use Rattle.trace_model.specs.Theory.Rows.{Evidence, Row, NoLater, IsLeastInstance, IsWitness, IsRow, AreRows, IsSound, AreSound}

abbrev pub Has : {X : Type 0} → List X → X → Type 0
Has xs x = (k : ℕ) × (slice_get xs k ≡ Some x)

abbrev pub Ordered : {X : Type 0} → (X → X → Type 0) → List X → Type 0
Ordered {X} R xs = (i j : ℕ) (a b : X) → i < j → slice_get xs i ≡ Some a → slice_get xs j ≡ Some b → R a b

pub has_contained : {X : Type 0} (xs : List X) (x : X) → Contains xs x → Has xs x
has_contained xs x (k, l, e) = (k, slice_get-get_or xs k x l ∙ ap Some e)

pub contains_had : {X : Type 0} (xs : List X) (x : X) → Has xs x → Contains xs x
contains_had xs x (k, h) = (k, slice_get_within xs k x h, get_or_from_slice_get xs k x x h)

-- two lists in order with the same elements are equal
pub same_list : {X : Type 0} (R : X → X → Type 0) → ((a b : X) → R a b → R b a → ⊥) → (xs ys : List X) →
    Ordered R xs → Ordered R ys → ((x : X) → Has xs x → Has ys x) → ((x : X) → Has ys x → Has xs x) → xs ≡ ys
same_list R asym [] [] p q f g = refl
same_list R asym [] (y ∷ ys) p q f g = absurd (none-some y (g y (zero, refl)).1)
same_list R asym (x ∷ xs) [] p q f g = absurd (none-some x (f x (zero, refl)).1)
same_list {X} R asym (x ∷ xs) (y ∷ ys) p q f g =
    let e : x ≡ y = first (f x (zero, refl)) (g y (zero, refl)) in
    let more : xs ≡ ys = same_list R asym xs ys
    (λ i j a b l. p (suc i) (suc j) a b (omega (arith, l)))
    (λ i j a b l. q (suc i) (suc j) a b (omega (arith, l)))
    (λ z h. forth e z h (f z (suc h.0, h.1)))
    (λ z h. back e z h (g z (suc h.0, h.1))) in
    λ i. e i ∷ more i
  where
    first : Has (y ∷ ys) x → Has (x ∷ xs) y → x ≡ y
    first (zero, a) b = sym (same_Some y x a)
    first (suc i, a) (zero, b) = same_Some x y b
    first (suc i, a) (suc j, b) = absurd (asym x y (p zero (suc j) x y (omega arith) refl b) (q zero (suc i) y x (omega arith) refl a))

    forth : x ≡ y → (z : X) → Has xs z → Has (y ∷ ys) z → Has ys z
    forth e z h (zero, a) =
        let r : R x z = p zero (suc h.0) x z (omega arith) refl h.1 in
        let same : x ≡ z = e ∙ same_Some y z a in
        absurd (asym x z r (subst (λ u. R u x) same (subst (λ u. R x u) (sym same) r)))
    forth e z h (suc k, a) = (k, a)

    back : x ≡ y → (z : X) → Has ys z → Has (x ∷ xs) z → Has xs z
    back e z h (zero, a) =
        let r : R y z = q zero (suc h.0) y z (omega arith) refl h.1 in
        let same : y ≡ z = sym e ∙ same_Some x z a in
        absurd (asym y z r (subst (λ u. R u y) same (subst (λ u. R y u) (sym same) r)))
    back e z h (suc k, a) = (k, a)

pub below_asym : (a b : List ℕ) → ListBelow a b → ListBelow b a → ⊥
below_asym [] [] h k = h
below_asym [] (y ∷ ys) h k = k
below_asym (x ∷ xs) [] h k = h
below_asym (x ∷ xs) (y ∷ ys) (inl a) (inl b) = omega arith
below_asym (x ∷ xs) (y ∷ ys) (inl a) (inr b) = omega (arith, b.0)
below_asym (x ∷ xs) (y ∷ ys) (inr a) (inl b) = omega (arith, a.0)
below_asym (x ∷ xs) (y ∷ ys) (inr a) (inr b) = below_asym xs ys a.1 b.1

pub cycles_unique : (s : Trace) (bound root : ℕ) (a b : List (List ℕ)) →
    AreCyclesFrom (dependencies s) bound root a → AreCyclesFrom (dependencies s) bound root b → a ≡ b
cycles_unique s bound root a b c d = same_list ListBelow below_asym a b c.in_order d.in_order
    (λ x h. has_contained b x ((d.exact x).1 ((c.exact x).0 (contains_had a x h))))
    (λ x h. has_contained a x ((c.exact x).1 ((d.exact x).0 (contains_had b x h))))

pub increasing_ordered : (xs : List ℕ) → IsStrictlyIncreasing xs → Ordered (λ a b. a < b) xs
increasing_ordered xs h i j a b l x y =
    let r = AllPairs-from_increasing xs h i j 0 l (slice_get_within xs j b y) in
    omega (arith, r, get_or_from_slice_get xs i a 0 x, get_or_from_slice_get xs j b 0 y)

pub witness_unique : (s : Trace) (places a b : List ℕ) → IsWitness s places a → IsWitness s places b → a ≡ b
witness_unique s places a b c d = same_list (λ x y. x < y) (λ x y l m. omega arith) a b
    (increasing_ordered a c.ascends) (increasing_ordered b d.ascends)
    (λ x h. has_contained b x (c.smallest b d.reorders d.reaches x (contains_had a x h)))
    (λ x h. has_contained a x (d.smallest a c.reorders c.reaches x (contains_had b x h)))

pub no_later_same : (xs ys : List ℕ) → length xs ≡ length ys → NoLater xs ys → NoLater ys xs → xs ≡ ys
no_later_same [] [] e a b = refl
no_later_same [] (y ∷ ys) e a b = absurd (omega arith)
no_later_same (x ∷ xs) [] e a b = absurd (omega arith)
no_later_same (x ∷ xs) (y ∷ ys) e a b =
    let head : x ≡ y = omega (arith, a zero x y refl refl, b zero y x refl refl) in
    let more = no_later_same xs ys (omega arith) (λ k. a (suc k)) (λ k. b (suc k)) in
    λ i. head i ∷ more i

pub least_unique : (s : Trace) (numbers a b : List ℕ) → IsLeastInstance s numbers a → IsLeastInstance s numbers b → a ≡ b
least_unique s numbers a b c d = no_later_same a b (c.is_instance.0 ∙ sym d.is_instance.0)
    (c.least b d.is_instance d.is_reached) (d.least a c.is_instance c.is_reached)

pub found_unique : (s : Trace) (numbers : List ℕ) (a b : Option Evidence) →
    IsRow s (record { cycle = numbers; found = a }) → IsRow s (record { cycle = numbers; found = b }) → a ≡ b
found_unique s numbers None None h k = refl
found_unique s numbers None (Some f) h k = absurd (h (f.places, k.0.is_instance, k.0.is_reached))
found_unique s numbers (Some e) None h k = absurd (k (e.places, h.0.is_instance, h.0.is_reached))
found_unique s numbers (Some e) (Some f) h k =
    let p = least_unique s numbers e.places f.places h.0 k.0 in
    let w = witness_unique s f.places e.witness f.witness (subst (λ x. IsWitness s x e.witness) p h.1) k.1 in
    λ i. Some (record { places = p i; witness = w i })

pub row_unique : (s : Trace) (a b : Row) → a.cycle ≡ b.cycle → IsRow s a → IsRow s b → a ≡ b
row_unique s a b e h k =
    let f = found_unique s b.cycle a.found b.found (subst (λ n. IsRow s (record { cycle = n; found = a.found })) e h) k in
    λ i. record { cycle = e i; found = f i }

pub each_unique : (s : Trace) (xs ys : List Row) → map (λ row. row.cycle) xs ≡ map (λ row. row.cycle) ys →
    All (IsRow s) xs → All (IsRow s) ys → xs ≡ ys
each_unique s [] [] e a b = refl
each_unique s [] (y ∷ ys) e a b = absurd (none-some y.cycle (ap (λ l. slice_get l zero) e))
each_unique s (x ∷ xs) [] e a b = absurd (none-some x.cycle (sym (ap (λ l. slice_get l zero) e)))
each_unique s (x ∷ xs) (y ∷ ys) e a b =
    let head : x.cycle ≡ y.cycle = same_Some x.cycle y.cycle (ap (λ l. slice_get l zero) e) in
    let first = row_unique s x y head (All-head (IsRow s) x xs a) (All-head (IsRow s) y ys b) in
    let more = each_unique s xs ys (ap (drop 1) e) (All-tail (IsRow s) x xs a) (All-tail (IsRow s) y ys b) in
    λ i. first i ∷ more i

-- there is one list of rows
pub rows_unique : (s : Trace) (bound root : ℕ) (a b : List Row) → AreRows s bound root a → AreRows s bound root b → a ≡ b
rows_unique s bound root a b c d = each_unique s a b (cycles_unique s bound root _ _ c.cycles d.cycles) c.exact d.exact

pub ascending_strict : (set : Places) (n : ℕ) → IsStrictlyIncreasing (ascending_places set n)
ascending_strict set n k l =
    ascending_increases set n k (k + 1) _ _ (omega arith)
    (slice_get-get_or (ascending_places set n) k 0 (omega arith)) (slice_get-get_or (ascending_places set n) (k + 1) 0 l)

-- the closure of places that are reached, ascending, is their witness
pub closure_witness : (s : Trace) → IsWellFormed s → (places : List ℕ) (set : Places) → IsClosure s places set → AreReached s places →
    IsWitness s places (ascending_places set (length s))
closure_witness s w places set is reached = record {
  ascends = ascending_strict set (length s);
  reorders = closed_reorders s w set (closure_closes s places set is);
  reaches = closed_reaches s places set (closure_holds s places set is) ((existence s w places set is).1 reached);
  smallest = λ other r e q c.
      closure_in_every s places q ((is q).0 (ascending_contains set (length s) q c).1) other r e;
}

-- ---- exact rows are sound

found_sound : (s : Trace) (numbers : List ℕ) (found : Option Evidence) →
    IsRow s (record { cycle = numbers; found = found }) → IsSound s (record { cycle = numbers; found = found })
found_sound s numbers None h = tt
found_sound s numbers (Some f) h = (h.0.is_instance, h.1.ascends, h.1.reorders, h.1.reaches)

each_sound : (s : Trace) (rows : List Row) → All (IsRow s) rows → All (IsSound s) rows
each_sound s [] h = All-nil (IsSound s)
each_sound s (row ∷ rows) h =
    All-cons (IsSound s) row rows (found_sound s row.cycle row.found (All-head (IsRow s) row rows h)) (each_sound s rows (All-tail (IsRow s) row rows h))

pub rows_sound : (s : Trace) (bound root : ℕ) (rows : List Row) → AreRows s bound root rows → AreSound s bound root rows
rows_sound s bound root rows h = record { cycles = h.cycles; sound = each_sound s rows h.exact }
