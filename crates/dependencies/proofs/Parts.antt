-- The part of a table for a prefix of the trace.
use Rattle.std.proofs.Common.{◌≡◌, ℕ, zero, suc, ◌<◌, ◌≤◌, ◌==◌, ltb, Bool, true, false, cond, List, [], ◌∷◌, length, take, map, slice_get, Some, refl, sym, ap, subst, ◌∙◌, arith}
use Rattle.std.specs.Prelude.{◌↔◌}
use Rattle.std.proofs.lemmas.Bool.{lt-ltb, ltb-true}
use Rattle.std.proofs.lemmas.List.{length-take-le}
use Rattle.std.proofs.lemmas.List.Kept.{IsStrictlyIncreasing-filter}
use Rattle.std.proofs.lemmas.Option.{none-some, same_Some}
use Rattle.std.specs.List.{filter, Contains}
use Rattle.std.specs.List.Sorted.{IsStrictlyIncreasing}
use Rattle.segments.specs.Notes.{noted_places, notes_below}
use Rattle.trace_model.specs.Theory.Dependencies.{Dependency}
use Rattle.trace_model.proofs.Theory.Ascending.{place_of, contains_at}
use Rattle.dependencies.specs.Tables.{listing_places, IsListing, IsTotal, IsPart}
use Rattle.dependencies.specs.Entries.{listing_from, IsKeptOf}
use Rattle.dependencies.proofs.Shown.{NoneBeyond, known_from, length_from, places_all}

-- ---- numbers of a list that are below n

abbrev pub below : ℕ → List ℕ → List ℕ
below n xs = filter (λ p. ltb p n) xs

below_so : (n : ℕ) (xs : List ℕ) (k q : ℕ) → slice_get (below n xs) k ≡ Some q → (q < n) × Contains xs q
below_so n [] k q h = absurd (none-some q h)
below_so n (x ∷ xs) k q h = go (λ j i. more (below_so n xs j q i)) (ltb x n) refl k h
  where
    more : (q < n) × Contains xs q → (q < n) × Contains (x ∷ xs) q
    more r = let at = place_of xs q r.1 in (r.0, contains_at (x ∷ xs) q (suc at.0) at.1)

    go : ((j : ℕ) → slice_get (below n xs) j ≡ Some q → (q < n) × Contains (x ∷ xs) q) →
        (b : Bool) → ltb x n ≡ b → (k : ℕ) → slice_get (cond b (x ∷ below n xs) (below n xs)) k ≡ Some q → (q < n) × Contains (x ∷ xs) q
    go rest true e zero h = let same = same_Some x q h in let low = ltb-true x n e in (omega arith, contains_at (x ∷ xs) q 0 h)
    go rest true e (suc k) h = rest k h
    go rest false e k h = rest k h

below_from : (n : ℕ) (xs : List ℕ) (k q : ℕ) → q < n → slice_get xs k ≡ Some q → Contains (below n xs) q
below_from n [] k q l h = absurd (none-some q h)
below_from n (x ∷ xs) zero q l h =
    let same = same_Some x q h in
    let less : x < n = omega arith in
    contains_at (below n (x ∷ xs)) q 0 (ap (λ b. slice_get (cond b (x ∷ below n xs) (below n xs)) 0) (lt-ltb x n less) ∙ h)
below_from n (x ∷ xs) (suc k) q l h = go (below_from n xs k q l h) (ltb x n)
  where
    go : Contains (below n xs) q → (b : Bool) → Contains (cond b (x ∷ below n xs) (below n xs)) q
    go c true = let at = place_of (below n xs) q c in contains_at (x ∷ below n xs) q (suc at.0) at.1
    go c false = c

pub below_exact : (n : ℕ) (xs : List ℕ) (q : ℕ) → Contains (below n xs) q ↔ ((q < n) × Contains xs q)
below_exact n xs q = (
  (λ c. let at = place_of (below n xs) q c in below_so n xs at.0 q at.1),
  (λ r. let at = place_of xs q r.1 in below_from n xs at.0 q r.0 at.1),
)

-- ---- notes of places below n

module _ (n : ℕ) (e : ℕ × ℕ) (notes : List (ℕ × ℕ)) where
  module _ (m : ℕ) (rest : noted_places (notes_below n notes) m ≡ below n (noted_places notes m)) where
    yes : ltb e.1 n ≡ true → (c : Bool) →
        map (λ x. x.1) (cond c (e ∷ filter (λ x. x.0 == m) (notes_below n notes)) (filter (λ x. x.0 == m) (notes_below n notes)))
        ≡ below n (map (λ x. x.1) (cond c (e ∷ filter (λ x. x.0 == m) notes) (filter (λ x. x.0 == m) notes)))
    yes lt true = ap (λ s. e.1 ∷ s) rest ∙ sym (ap (λ b. cond b (e.1 ∷ below n (noted_places notes m)) (below n (noted_places notes m))) lt)
    yes lt false = rest

    no : ltb e.1 n ≡ false → (c : Bool) →
        noted_places (notes_below n notes) m ≡ below n (map (λ x. x.1) (cond c (e ∷ filter (λ x. x.0 == m) notes) (filter (λ x. x.0 == m) notes)))
    no lt true = rest ∙ sym (ap (λ b. cond b (e.1 ∷ below n (noted_places notes m)) (below n (noted_places notes m))) lt)
    no lt false = rest

    pub one_note : (b : Bool) → ltb e.1 n ≡ b → noted_places (cond b (e ∷ notes_below n notes) (notes_below n notes)) m ≡ below n (noted_places (e ∷ notes) m)
    one_note true lt = yes lt (e.0 == m)
    one_note false lt = no lt (e.0 == m)

  pub one_place : map (λ x. x.1) (notes_below n notes) ≡ below n (map (λ x. x.1) notes) →
      (b : Bool) → ltb e.1 n ≡ b → map (λ x. x.1) (cond b (e ∷ notes_below n notes) (notes_below n notes)) ≡ cond b (e.1 ∷ below n (map (λ x. x.1) notes)) (below n (map (λ x. x.1) notes))
  one_place rest true lt = ap (λ s. e.1 ∷ s) rest
  one_place rest false lt = rest

places_below : (n : ℕ) (notes : List (ℕ × ℕ)) (m : ℕ) → noted_places (notes_below n notes) m ≡ below n (noted_places notes m)
places_below n [] m = refl
places_below n (e ∷ notes) m = one_note n e notes m (places_below n notes m) (ltb e.1 n) refl

all_below : (n : ℕ) (notes : List (ℕ × ℕ)) → map (λ x. x.1) (notes_below n notes) ≡ below n (map (λ x. x.1) notes)
all_below n [] = refl
all_below n (e ∷ notes) = one_place n e notes (all_below n notes) (ltb e.1 n) refl

none_in : (xs : List ℕ) → ((q : ℕ) → Contains xs q → ⊥) → xs ≡ []
none_in [] h = refl
none_in (x ∷ xs) h = absurd (h x (contains_at (x ∷ xs) x 0 refl))

-- ---- the part

module _ (ds ds' : List Dependency) (notes notes' : List (ℕ × ℕ)) (numbers total n : ℕ)
    (kept : IsKeptOf ds notes numbers) (listing : IsListing (listing_from 0 ds notes)) (is_total : IsTotal (listing_from 0 ds notes) total n)
    (first : ds' ≡ take total ds) (early : notes' ≡ notes_below n notes) where
  within : total ≤ length ds
  within = let len = length_from 0 ds notes in let l = is_total.within in omega arith

  count : length ds' ≡ total
  count = ap length first ∙ length-take-le total ds within

  early_in : (m : ℕ) → noted_places notes' m ≡ below n (noted_places notes m)
  early_in m = ap (λ xs. noted_places xs m) early ∙ places_below n notes m

  all_in : (m : ℕ) → listing_places (listing_from 0 ds notes) m ≡ noted_places notes m
  all_in m = places_all ds notes kept.beyond m

  beyond : NoneBeyond ds' notes'
  beyond m l = none_in (noted_places notes' m) (λ q c.
      let r = (below_exact n (noted_places notes m) q).0 (subst (λ (ps : List ℕ). Contains ps q) (early_in m) c) in
      let low = is_total.none m q (subst (λ (ps : List ℕ). Contains ps q) (sym (all_in m)) r.1) r.0 in
      let len = count in
      omega arith)

  pub part_places : (m : ℕ) → listing_places (listing_from 0 ds' notes') m ≡ below n (listing_places (listing_from 0 ds notes) m)
  part_places m = places_all ds' notes' beyond m ∙ early_in m ∙ ap (below n) (sym (all_in m))

  in_part : (m p : ℕ) → Contains (listing_places (listing_from 0 ds' notes') m) p ↔ ((p < n) × Contains (listing_places (listing_from 0 ds notes) m) p)
  in_part m p =
      let exact = below_exact n (listing_places (listing_from 0 ds notes) m) p in (
        (λ c. exact.0 (subst (λ (ps : List ℕ). Contains ps p) (part_places m) c)),
        (λ r. subst (λ (ps : List ℕ). Contains ps p) (sym (part_places m)) (exact.1 r)),
      )

  pub part_is : IsPart (listing_from 0 ds notes) total n (listing_from 0 ds' notes')
  part_is = record {
    dependencies = known_from 0 ds' notes' ∙ first ∙ ap (take total) (sym (known_from 0 ds notes));
    places = in_part;
  }

  pub part_listing : IsListing (listing_from 0 ds' notes')
  part_listing = record {
    ascends = λ m. subst IsStrictlyIncreasing (sym (part_places m)) (IsStrictlyIncreasing-filter (λ p. ltb p n) (listing_places (listing_from 0 ds notes) m) (listing.ascends m));
    some = λ m l.
        let len = length_from 0 ds' notes' in
        let c = count in
        let p = is_total.some m (omega arith) in
        (p.0, (in_part m p.0).1 (p.2, p.1));
    least = λ m p c. listing.least m p ((in_part m p).0 c).1;
    few = (let len = length_from 0 ds' notes' in let c = count in let w = is_total.within in let f = listing.few in omega arith);
  }

  pub part_kept : IsKeptOf ds' notes' numbers
  part_kept = record {
    counted = (let c = count in let w = within in let k = kept.counted in omega arith);
    beyond = beyond;
    ascend = subst IsStrictlyIncreasing (sym (ap (map (λ x. x.1)) early ∙ all_below n notes)) (IsStrictlyIncreasing-filter (λ p. ltb p n) (map (λ x. x.1) notes) kept.ascend);
  }
