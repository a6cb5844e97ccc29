-- The dependencies and their places by number, as a table.
use Rattle.std.proofs.Common.{◌≡◌, ◌≢◌, ◌<◌, ◌≤◌, ◌+◌, ◌==◌, nat_eq, nat_lt, inl, inr, ℕ, zero, suc, Bool, true, false, cond, List, [], ◌∷◌, ◌++◌, length, take, map, get_or, slice_get, position, Option, Some, None, is_some, subst, refl, sym, ap, ◌∙◌, arith}
use Rattle.std.proofs.lemmas.Bool.{true≢false, cases_lt, cases_eq, eq-eqb, ne_eqb, lt-ltb}
use Rattle.std.proofs.lemmas.Map.Made.{is_some-lookup}
use Rattle.indexmap.proofs.MapLemmas.{some_index}
use Rattle.std.proofs.lemmas.Option.{none-some, same_Some, slice_get-get_or, slice_get_within}
use Rattle.std.proofs.lemmas.Map.Keys.{apart_from_distinct}
use Rattle.std.proofs.lemmas.List.Sums.{position_or_len_is}
use Rattle.std.proofs.lemmas.List.Quantifiers.{position-Some}
use Rattle.std.specs.List.{position_or_len, list_any, filter, Contains, IsDistinct}
use Rattle.std.specs.Cmp.{IsEquivalence}
use Rattle.std.specs.Map.{keys_of, lookup}
use Rattle.segments.specs.Notes.{noted_places, Ascend}
use Rattle.trace_model.specs.Theory.Dependencies.{Dependency, same_dependency}
use Rattle.trace_model.proofs.Theory.Dependencies.{same_dependency_so, same_dependency_itself}
use Rattle.trace_model.proofs.Lists.{length-push, same_bool}
use Rattle.trace_model.proofs.Theory.Ascending.{place_of, contains_at}
use Rattle.std.specs.List.Sorted.{IsStrictlyIncreasing}
use Rattle.dependencies.specs.Tables.{listing_dependencies, listing_places, EndBelow, HaveOneMore}
use Rattle.dependencies.specs.Entries.{listing_from, IsKeptOf}
use Rattle.dependencies.proofs.Noting.{noted_known, noted_new, push_increases}

-- a dependency without a position is not in the list
none_is : {X : Type 0} (o : Option X) → is_some o ≡ false → o ≡ None
none_is None h = refl
none_is (Some x) h = absurd (true≢false h)

pub at_position : (d : Dependency) (ds : List Dependency) (i : ℕ) → position (same_dependency d) ds ≡ Some i → slice_get ds i ≡ Some d
at_position d ds i h =
    let p = position-Some (same_dependency d) ds i d h in
    slice_get-get_or ds i d p.0 ∙ ap Some (sym (same_dependency_so d (get_or ds i d) p.1))

-- one of distinct dependencies is at its first position
pub position_of : (d : Dependency) (ds : List Dependency) (i : ℕ) → IsDistinct same_dependency ds → slice_get ds i ≡ Some d → position (same_dependency d) ds ≡ Some i
position_of d ds i once at =
    let within : i < length ds = slice_get_within ds i d at in
    let here : get_or ds i d ≡ d = same_Some (get_or ds i d) d (sym (slice_get-get_or ds i d within) ∙ at) in
    let itself : same_dependency d (get_or ds i d) ≡ true = subst (λ x. same_dependency d x ≡ true) (sym here) (same_dependency_itself d) in
    let fails : (k : ℕ) → k < i → same_dependency d (get_or ds k d) ≡ false =
    λ k l. not_true (same_dependency d (get_or ds k d)) (λ same.
    true≢false (sym itself ∙ subst (λ x. same_dependency x (get_or ds i d) ≡ false) (sym (same_dependency_so d (get_or ds k d) same)) (apart_from_distinct same_dependency ds k i d once l within))) in
    let first = position_or_len_is (same_dependency d) ds i d (omega arith) fails (λ _. itself) in
    found (position_or_len (same_dependency d) ds) i (length ds) first within
  where
    not_true : (b : Bool) → (b ≡ true → ⊥) → b ≡ false
    not_true true n = absurd (n refl)
    not_true false n = refl

    found : (n i m : ℕ) → n ≡ i → i < m → cond (nat_lt n m) (Some n) None ≡ Some i
    found n i m e l = ap (λ x. cond (nat_lt x m) (Some x) None) e ∙ ap (λ b. cond b (Some i) None) (lt-ltb i m l)

absent_lookup : {V : Type 0} → (d : Dependency) (es : List (Dependency × V)) → position (same_dependency d) (keys_of es) ≡ None → lookup (same_dependency d) es ≡ None
absent_lookup {V} d es h = none_is _ (sym (some_index (same_dependency d) es) ∙ ap is_some h)

pub absent : {V : Type 0} → (d : Dependency) (es : List (Dependency × V)) → position (same_dependency d) (keys_of es) ≡ None → list_any (same_dependency d) (keys_of es) ≡ false
absent {V} d es h = sym (is_some-lookup (same_dependency d) es) ∙ ap is_some (absent_lookup d es h)

abbrev numbered_all : List Dependency → List (Dependency × ℕ)
numbered_all [] = []
numbered_all (d ∷ ds) = (d, zero) ∷ numbered_all ds

keys_numbered : (ds : List Dependency) → keys_of (numbered_all ds) ≡ ds
keys_numbered [] = refl
keys_numbered (d ∷ ds) = ap (λ ks. d ∷ ks) (keys_numbered ds)

pub unlisted : (d : Dependency) (ds : List Dependency) → position (same_dependency d) ds ≡ None → list_any (same_dependency d) ds ≡ false
unlisted d ds h =
    subst (λ (ks : List Dependency). list_any (same_dependency d) ks ≡ false) (keys_numbered ds)
    (absent d (numbered_all ds) (ap (position (same_dependency d)) (keys_numbered ds) ∙ h))

-- ---- tables

pub known_from : (k : ℕ) (ds : List Dependency) (notes : List (ℕ × ℕ)) → listing_dependencies (listing_from k ds notes) ≡ ds
known_from k [] notes = refl
known_from k (d ∷ ds) notes = ap (λ ks. d ∷ ks) (known_from (suc k) ds notes)

pub length_from : (k : ℕ) (ds : List Dependency) (notes : List (ℕ × ℕ)) → length (listing_from k ds notes) ≡ length ds
length_from k [] notes = refl
length_from k (d ∷ ds) notes = ap suc (length_from (suc k) ds notes)

pub places_from : (k : ℕ) (ds : List Dependency) (notes : List (ℕ × ℕ)) (m : ℕ) → m < length ds → listing_places (listing_from k ds notes) m ≡ noted_places notes (k + m)
places_from k [] notes m l = absurd (omega arith)
places_from k (d ∷ ds) notes zero l = let same : k ≡ k + 0 = omega arith in ap (noted_places notes) same
places_from k (d ∷ ds) notes (suc m) l =
    let same : suc k + m ≡ k + suc m = omega arith in
    places_from (suc k) ds notes m (omega arith) ∙ ap (noted_places notes) same

beyond_from : (k : ℕ) (ds : List Dependency) (notes : List (ℕ × ℕ)) (m : ℕ) → length ds ≤ m → listing_places (listing_from k ds notes) m ≡ []
beyond_from k [] notes m l = refl
beyond_from k (d ∷ ds) notes zero l = absurd (omega arith)
beyond_from k (d ∷ ds) notes (suc m) l = beyond_from (suc k) ds notes m (omega arith)

abbrev pub NoneBeyond : List Dependency → List (ℕ × ℕ) → Type 0
NoneBeyond ds notes = (m : ℕ) → length ds ≤ m → noted_places notes m ≡ []

-- the places of each number, also of an unknown one
pub places_all : (ds : List Dependency) (notes : List (ℕ × ℕ)) → NoneBeyond ds notes → (m : ℕ) → listing_places (listing_from 0 ds notes) m ≡ noted_places notes m
places_all ds notes none m = elim (cases_lt m (length ds)) [
  | inl l ↦ let same : 0 + m ≡ m = omega arith in places_from 0 ds notes m l ∙ ap (noted_places notes) same
  | inr l ↦ beyond_from 0 ds notes m l ∙ sym (none m l)
]

pub places_push : (notes : List (ℕ × ℕ)) (e : ℕ × ℕ) (m : ℕ) → noted_places (notes ++ e ∷ []) m ≡ cond (e.0 == m) (noted_places notes m ++ e.1 ∷ []) (noted_places notes m)
places_push [] e m = go (e.0 == m)
  where
    go : (b : Bool) → map (λ x. x.1) (cond b (e ∷ []) []) ≡ cond b (e.1 ∷ []) []
    go true = refl
    go false = refl
places_push (y ∷ notes) e m = go (y.0 == m) (e.0 == m) (places_push notes e m)
  where
    go : (b c : Bool) → noted_places (notes ++ e ∷ []) m ≡ cond c (noted_places notes m ++ e.1 ∷ []) (noted_places notes m) →
        map (λ x. x.1) (cond b (y ∷ filter (λ x. x.0 == m) (notes ++ e ∷ [])) (filter (λ x. x.0 == m) (notes ++ e ∷ [])))
        ≡ cond c (map (λ x. x.1) (cond b (y ∷ filter (λ x. x.0 == m) notes) (filter (λ x. x.0 == m) notes)) ++ e.1 ∷ []) (map (λ x. x.1) (cond b (y ∷ filter (λ x. x.0 == m) notes) (filter (λ x. x.0 == m) notes)))
    go true true h = ap (λ xs. y.1 ∷ xs) h
    go true false h = ap (λ xs. y.1 ∷ xs) h
    go false true h = h
    go false false h = h

places_here : (notes : List (ℕ × ℕ)) (n p : ℕ) → noted_places (notes ++ (n, p) ∷ []) n ≡ noted_places notes n ++ p ∷ []
places_here notes n p = places_push notes (n, p) n ∙ ap (λ b. cond b (noted_places notes n ++ p ∷ []) (noted_places notes n)) (eq-eqb n n refl)

places_elsewhere : (notes : List (ℕ × ℕ)) (n p m : ℕ) → n ≢ m → noted_places (notes ++ (n, p) ∷ []) m ≡ noted_places notes m
places_elsewhere notes n p m h = places_push notes (n, p) m ∙ ap (λ b. cond b (noted_places notes m ++ p ∷ []) (noted_places notes m)) (ne_eqb n m h)

pub beyond_push : (ds : List Dependency) (notes : List (ℕ × ℕ)) (n p k : ℕ) → NoneBeyond ds notes → length ds ≤ k → n < k → (m : ℕ) → k ≤ m → noted_places (notes ++ (n, p) ∷ []) m ≡ []
beyond_push ds notes n p k none l b m h = places_elsewhere notes n p m (λ e. omega arith) ∙ none m (omega arith)

-- one more place of a known number
pub known_noted : (ds : List Dependency) (notes notes' : List (ℕ × ℕ)) (p : ℕ) (d : Dependency) (n : ℕ) → NoneBeyond ds notes → slice_get ds n ≡ Some d → n < length ds →
    notes' ≡ notes ++ (n, p) ∷ [] → HaveOneMore (listing_from 0 ds notes) p d n (listing_from 0 ds notes')
known_noted ds notes notes' p d n none at within is =
    subst (λ xs. HaveOneMore (listing_from 0 ds notes) p d n (listing_from 0 ds xs)) (sym is)
    (noted_known (listing_from 0 ds notes) (listing_from 0 ds more) p d n (ap (λ xs. slice_get xs n) (known_from 0 ds notes) ∙ at) (known_from 0 ds more ∙ sym (known_from 0 ds notes))
    (places_all ds more none' n ∙ places_here notes n p ∙ ap (λ xs. xs ++ p ∷ []) (sym (places_all ds notes none n)))
    (λ m h. places_all ds more none' m ∙ places_elsewhere notes n p m (λ e. h (sym e)) ∙ sym (places_all ds notes none m)))
  where
    more : List (ℕ × ℕ)
    more = notes ++ (n, p) ∷ []

    none' : NoneBeyond ds (notes ++ (n, p) ∷ [])
    none' = beyond_push ds notes n p (length ds) none (omega arith) within

from_push : (k : ℕ) (ds : List Dependency) (d : Dependency) (notes notes' : List (ℕ × ℕ)) → ((m : ℕ) → m < k + length ds → noted_places notes' m ≡ noted_places notes m) →
    listing_from k (ds ++ d ∷ []) notes' ≡ listing_from k ds notes ++ (d, noted_places notes' (k + length ds)) ∷ []
from_push k [] d notes notes' h = let same : k ≡ k + 0 = omega arith in ap (λ i. (d, noted_places notes' i) ∷ []) same
from_push k (x ∷ ds) d notes notes' h =
    let same : suc k + length ds ≡ k + suc (length ds) = omega arith in
    ap (λ ps. (x, ps) ∷ listing_from (suc k) (ds ++ d ∷ []) notes') (h k (omega arith))
    ∙ ap (λ t. (x, noted_places notes k) ∷ t) (from_push (suc k) ds d notes notes' (λ m l. h m (omega arith)) ∙ ap (λ i. listing_from (suc k) ds notes ++ (d, noted_places notes' i) ∷ []) same)

-- a new dependency with its first place
pub new_noted : (ds ds' : List Dependency) (notes notes' : List (ℕ × ℕ)) (p : ℕ) (d : Dependency) (n : ℕ) → NoneBeyond ds notes → list_any (same_dependency d) ds ≡ false → n ≡ length ds →
    notes' ≡ notes ++ (n, p) ∷ [] → ds' ≡ ds ++ d ∷ [] → HaveOneMore (listing_from 0 ds notes) p d n (listing_from 0 ds' notes')
new_noted ds ds' notes notes' p d n none gone at is keys =
    let len = length_from 0 ds notes in
    let zero_n : 0 + length ds ≡ n = omega arith in
    let first : noted_places notes' n ≡ p ∷ [] = ap (λ xs. noted_places xs n) is ∙ places_here notes n p ∙ ap (λ xs. xs ++ p ∷ []) (none n (omega arith)) in
    let table : listing_from 0 ds' notes' ≡ listing_from 0 ds notes ++ (d, p ∷ []) ∷ [] =
    ap (λ ks. listing_from 0 ks notes') keys
    ∙ from_push 0 ds d notes notes' (λ m l. ap (λ xs. noted_places xs m) is ∙ places_elsewhere notes n p m (λ e. omega arith))
    ∙ ap (λ ps. listing_from 0 ds notes ++ (d, ps) ∷ []) (ap (noted_places notes') zero_n ∙ first) in
    subst (λ t. HaveOneMore (listing_from 0 ds notes) p d n t) (sym table)
    (subst (λ i. HaveOneMore (listing_from 0 ds notes) p d i (listing_from 0 ds notes ++ (d, p ∷ []) ∷ [])) (len ∙ sym at)
    (noted_new (listing_from 0 ds notes) p d (ap (list_any (same_dependency d)) (known_from 0 ds notes) ∙ gone)))

numbers_grow : (n k after : ℕ) → n ≤ k → after ≡ cond (nat_eq n k) (k + 1) k → (k ≤ after) × (n < after)
numbers_grow n k after l h = elim (cases_eq n k) [
  | inl e ↦ let next : after ≡ k + 1 = h ∙ ap (λ b. cond b (k + 1) k) (eq-eqb n k e) in (omega arith, omega arith)
  | inr e ↦ let same : after ≡ k = h ∙ ap (λ b. cond b (k + 1) k) (ne_eqb n k e) in (omega arith, omega arith)
]

-- ---- the places of all notes

place_push : (notes : List (ℕ × ℕ)) (e : ℕ × ℕ) → map (λ x. x.1) (notes ++ e ∷ []) ≡ map (λ x. x.1) notes ++ e.1 ∷ []
place_push [] e = refl
place_push (y ∷ notes) e = ap (λ s. y.1 ∷ s) (place_push notes e)

-- each place is one of some number
noted_at : (notes : List (ℕ × ℕ)) (k q : ℕ) → slice_get (map (λ x. x.1) notes) k ≡ Some q → (m : ℕ) × Contains (noted_places notes m) q
noted_at [] k q h = absurd (none-some q h)
noted_at (e ∷ notes) zero q h = (e.0, contains_at (noted_places (e ∷ notes) e.0) q 0 (go (e.0 == e.0) (eq-eqb e.0 e.0 refl)))
  where
    go : (b : Bool) → b ≡ true → slice_get (map (λ x. x.1) (cond b (e ∷ filter (λ x. x.0 == e.0) notes) (filter (λ x. x.0 == e.0) notes))) 0 ≡ Some q
    go true t = h
    go false t = absurd (true≢false (sym t))
noted_at (e ∷ notes) (suc k) q h =
    let later = noted_at notes k q h in
    let at = place_of (noted_places notes later.0) q later.1 in
    (later.0, go (e.0 == later.0) later.0 at.0 at.1)
  where
    go : (b : Bool) (m j : ℕ) → slice_get (noted_places notes m) j ≡ Some q →
        Contains (map (λ x. x.1) (cond b (e ∷ filter (λ x. x.0 == m) notes) (filter (λ x. x.0 == m) notes))) q
    go true m j k = contains_at (e.1 ∷ noted_places notes m) q (suc j) k
    go false m j k = contains_at (noted_places notes m) q j k

noted_below : (ds : List Dependency) (notes : List (ℕ × ℕ)) (p k q : ℕ) → NoneBeyond ds notes → EndBelow (listing_from 0 ds notes) p → slice_get (map (λ x. x.1) notes) k ≡ Some q → q < p
noted_below ds notes p k q none below h =
    let at = noted_at notes k q h in
    below at.0 q (subst (λ (ps : List ℕ). Contains ps q) (sym (places_all ds notes none at.0)) at.1)

ascend_push : (ds : List Dependency) (notes notes' : List (ℕ × ℕ)) (n p : ℕ) → NoneBeyond ds notes → Ascend notes → EndBelow (listing_from 0 ds notes) p → notes' ≡ notes ++ (n, p) ∷ [] → Ascend notes'
ascend_push ds notes notes' n p none up below is =
    subst IsStrictlyIncreasing (sym (ap (map (λ x. x.1)) is ∙ place_push notes (n, p)))
    (push_increases (map (λ x. x.1) notes) p up (λ q c. let at = place_of (map (λ x. x.1) notes) q c in noted_below ds notes p at.0 q none below at.1))

least_or : (xs : List ℕ) (i : ℕ) → IsStrictlyIncreasing xs → i < length xs → i ≤ get_or xs i 0
least_or xs zero up l = omega arith
least_or xs (suc i) up l =
    let next : i + 1 ≡ suc i = omega arith in
    let more : get_or xs i 0 < get_or xs (suc i) 0 = subst (λ j. get_or xs i 0 < get_or xs j 0) next (up i (omega arith)) in
    let before = least_or xs i up (omega arith) in
    omega arith

-- the number of notes is at most a bound of their places
pub few_notes : (ds : List Dependency) (notes : List (ℕ × ℕ)) (numbers p : ℕ) → IsKeptOf ds notes numbers → EndBelow (listing_from 0 ds notes) p → length notes ≤ p
few_notes ds notes numbers p kept below = go (length (map (λ x. x.1) notes)) refl
  where
    len : (xs : List (ℕ × ℕ)) → length (map (λ x. x.1) xs) ≡ length xs
    len [] = refl
    len (x ∷ xs) = ap suc (len xs)

    go : (k : ℕ) → length (map (λ x. x.1) notes) ≡ k → length notes ≤ p
    go zero e = let same = len notes in omega arith
    go (suc k) e =
        let same = len notes in
        let least = least_or (map (λ x. x.1) notes) k kept.ascend (omega arith) in
        let last = noted_below ds notes p k (get_or (map (λ x. x.1) notes) k 0) kept.beyond below (slice_get-get_or (map (λ x. x.1) notes) k 0 (omega arith)) in
        omega arith

-- ---- one more note

pub kept_known : (ds : List Dependency) (notes notes' : List (ℕ × ℕ)) (p n k k' : ℕ) → IsKeptOf ds notes k → EndBelow (listing_from 0 ds notes) p → n < length ds →
    notes' ≡ notes ++ (n, p) ∷ [] → k' ≡ cond (nat_eq n k) (k + 1) k → IsKeptOf ds notes' k'
kept_known ds notes notes' p n k k' kept below within is after = record {
  counted = let c = kept.counted in let g = numbers_grow n k k' (omega arith) after in let l = g.0 in omega arith;
  beyond = λ m l. ap (λ xs. noted_places xs m) is ∙ beyond_push ds notes n p (length ds) kept.beyond (omega arith) within m l;
  ascend = ascend_push ds notes notes' n p kept.beyond kept.ascend below is;
}

pub kept_new : (ds ds' : List Dependency) (notes notes' : List (ℕ × ℕ)) (p : ℕ) (d : Dependency) (n k k' : ℕ) → IsKeptOf ds notes k → EndBelow (listing_from 0 ds notes) p → n ≡ length ds →
    notes' ≡ notes ++ (n, p) ∷ [] → ds' ≡ ds ++ d ∷ [] → k' ≡ cond (nat_eq n k) (k + 1) k → IsKeptOf ds' notes' k'
kept_new ds ds' notes notes' p d n k k' kept below at is keys after =
    let len = ap length keys ∙ length-push ds d in
    let c = kept.counted in
    let g = numbers_grow n k k' (omega arith) after in
    let l = g.1 in
    record {
      counted = omega arith;
      beyond = λ m l. ap (λ xs. noted_places xs m) is ∙ beyond_push ds notes n p (length ds') kept.beyond (omega arith) (omega arith) m l;
      ascend = ascend_push ds notes notes' n p kept.beyond kept.ascend below is;
    }

-- ---- the first ones, and the next

pub take_past : {X : Type 0} → (n : ℕ) (xs : List X) → length xs ≤ n → take n xs ≡ xs
take_past {X} zero [] l = refl
take_past {X} zero (x ∷ xs) l = absurd (omega arith)
take_past {X} (suc n) [] l = refl
take_past {X} (suc n) (x ∷ xs) l = ap (λ ys. x ∷ ys) (take_past n xs (omega arith))

pub dependencies_are : IsEquivalence same_dependency
dependencies_are = record {
  refl = same_dependency_itself;
  symm = λ a b. same_bool (same_dependency a b) (same_dependency b a) (λ h. turned a b h) (λ h. turned b a h);
  congr = λ a b c h. ap (λ x. same_dependency x c) (same_dependency_so a b h);
}
  where
    turned : (a b : Dependency) → same_dependency a b ≡ true → same_dependency b a ≡ true
    turned a b h = subst (λ x. same_dependency x a ≡ true) (same_dependency_so a b h) (same_dependency_itself a)
