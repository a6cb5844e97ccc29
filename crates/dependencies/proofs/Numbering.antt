-- The numbers of dependencies by their hashes.
use Rattle.std.proofs.Common.{◌≡◌, ◌<◌, ◌+◌, ◌==◌, ◌&&◌, ◌⊎◌, inl, inr, ℕ, Bool, true, false, cond, List, [], ◌∷◌, ◌++◌, length, map, get_or, slice_get, position, Option, Some, None, refl, sym, ap, ◌∙◌, arith}
use Rattle.std.proofs.lemmas.Bool.{true≢false, false≢true, cases_lt, cases_eq, eq-eqb, ne_eqb}
use Rattle.std.proofs.lemmas.List.{get_or_append_left, get_or_push, length_push}
use Rattle.std.proofs.lemmas.Option.{slice_get-map, slice_get-get_or, slice_get_within}
use Rattle.std.proofs.lemmas.Map.Keys.{apart_from_distinct}
use Rattle.std.specs.List.{IsDistinct, list_any}
use Rattle.std.specs.Option.{option_map, option_map_or}
use Rattle.indexmap.proofs.MapLemmas.{distinct_from_apart}
use Rattle.std.specs.declared.random_state.RandomState.{RandomState}
use Rattle.trace_model.specs.Theory.Dependencies.{Dependency, same_dependency, with_new}
use Rattle.trace_model.proofs.Theory.Dependencies.{same_dependency_so, same_dependency_itself, known_from}
use Rattle.trace_model.proofs.Theory.Places.{last_place_none}
use Rattle.trace_model.proofs.Lists.{get-push, none_passes}
use Rattle.dependencies.specs.Hashing.{dependency_hash}
use Rattle.dependencies.specs.HashedNumbers.{HashedView, passes_at, last_passing}
use Rattle.dependencies.specs.Keys.{KeysView, listed_by, AreListed}
use Rattle.dependencies.proofs.Shown.{at_position, unlisted, dependencies_are, take_past}
use Rattle.dependencies.proofs.Hashed.{passes_is}

pub no_dependency : IsDistinct same_dependency []
no_dependency = distinct_from_apart dependencies_are [] (λ i j d l m. absurd (omega (arith, m)))

pub distinct_push : (ds : List Dependency) (d : Dependency) → IsDistinct same_dependency ds → list_any (same_dependency d) ds ≡ false → IsDistinct same_dependency (ds ++ d ∷ [])
distinct_push ds d once gone = distinct_from_apart dependencies_are (ds ++ d ∷ []) (λ i j e l m. apart i j e l (omega (arith, m, length_push ds d)))
  where
    last : (i : ℕ) (e : Dependency) → i < length ds → same_dependency (get_or ds i e) d ≡ false
    last i e l = dependencies_are.symm (get_or ds i e) d ∙ none_passes (same_dependency d) ds i (get_or ds i e) gone (slice_get-get_or ds i e l)

    apart : (i j : ℕ) (e : Dependency) → i < j → j < length ds + 1 → same_dependency (get_or (ds ++ d ∷ []) i e) (get_or (ds ++ d ∷ []) j e) ≡ false
    apart i j e l m =
        let first : get_or (ds ++ d ∷ []) i e ≡ get_or ds i e = get_or_append_left ds (d ∷ []) e i (omega arith) in
        elim (cases_lt j (length ds)) [
          | inl k ↦
              (λ n. same_dependency (first n) (get_or_append_left ds (d ∷ []) e j k n))
              ∙ apart_from_distinct same_dependency ds i j e once l k
          | inr k ↦
              (λ n. same_dependency (first n) (get_or_push ds d e j (omega arith) n))
              ∙ last i e (omega arith)
        ]

-- a dependency that is listed has a known number, and another one gets the next number
pub with_known : (ds : List Dependency) (d : Dependency) (n : ℕ) → position (same_dependency d) ds ≡ Some n → with_new ds (Some d) ≡ ds
with_known ds d n h = ap (λ b. cond b ds (ds ++ d ∷ [])) (known_from d ds n (at_position d ds n h))

pub with_unknown : (ds : List Dependency) (d : Dependency) → position (same_dependency d) ds ≡ None → with_new ds (Some d) ≡ ds ++ d ∷ []
with_unknown ds d h = ap (λ b. cond b ds (ds ++ d ∷ [])) (unlisted d ds h)

abbrev pub IsRecorded : List Dependency → List Dependency → Dependency → ℕ → Type 0
IsRecorded ds new d n =
    ((new ≡ ds) × (slice_get ds n ≡ Some d)) ⊎ ((new ≡ ds ++ d ∷ []) × (n ≡ length ds) × (list_any (same_dependency d) ds ≡ false))

pub recorded : (ds new : List Dependency) (d : Dependency) (n : ℕ) → new ≡ with_new ds (Some d) → position (same_dependency d) new ≡ Some n → IsRecorded ds new d n
recorded ds new d n is at = go (list_any (same_dependency d) ds) refl
  where
    there : slice_get new n ≡ Some d
    there = at_position d new n at

    go : (b : Bool) → list_any (same_dependency d) ds ≡ b → IsRecorded ds new d n
    go true e =
        let same : new ≡ ds = is ∙ ap (λ b. cond b ds (ds ++ d ∷ [])) e in
        inl (same, ap (λ ks. slice_get ks n) (sym same) ∙ there)
    go false e =
        let more : new ≡ ds ++ d ∷ [] = is ∙ ap (λ b. cond b ds (ds ++ d ∷ [])) e in
        elim (get-push ds d n d (ap (λ ks. slice_get ks n) (sym more) ∙ there)) [
          | inl a ↦ absurd (false≢true (sym e ∙ known_from d ds n a))
          | inr a ↦ inr (more, a.0, e)
        ]

-- ---- hashes

-- if the hash map is complete, then a listed dependency has its hash there
abbrev pub HashTells : List ℕ → KeysView → Type 0
HashTells hashes v = (hash : ℕ) (d : Dependency) → hash ≡ dependency_hash v.state d → v.numbered ≡ length v.keys → (j : ℕ) →
    passes_at (same_dependency d) v.keys j ≡ true → passes_at (λ x. hash == x) hashes j ≡ true

pub hash_tells : (list : List Dependency × Bool) (numbers : HashedView) (state : RandomState) → AreListed list.0 numbers.hashes state → HashTells numbers.hashes (listed_by list numbers state)
hash_tells list numbers state are hash d is all j h =
    let hs : numbers.hashes ≡ map (dependency_hash state) list.0 = are.first ∙ ap (map (dependency_hash state)) (take_past (length numbers.hashes) list.0 (omega arith)) in
    ap (λ o. option_map_or (λ x. hash == x) o false) (ap (λ ks. slice_get ks j) hs ∙ slice_get-map (dependency_hash state) list.0 j)
    ∙ go (slice_get list.0 j) h
  where
    go : (o : Option Dependency) → option_map_or (same_dependency d) o false ≡ true → option_map_or (λ x. hash == x) (option_map (dependency_hash state) o) false ≡ true
    go None e = absurd (false≢true e)
    go (Some x) e = eq-eqb hash (dependency_hash state x) (is ∙ ap (dependency_hash state) (same_dependency_so d x e))

pub none_position : (ds : List Dependency) (d : Dependency) → last_passing (same_dependency d) ds (length ds) ≡ None → position (same_dependency d) ds ≡ None
none_position ds d h = go (position (same_dependency d) ds) refl
  where
    go : (o : Option ℕ) → position (same_dependency d) ds ≡ o → o ≡ None
    go None e = refl
    go (Some i) e =
        let at = at_position d ds i e in
        absurd (last_place_none (passes_at (same_dependency d) ds) (length ds) h i (slice_get_within ds i d at) (passes_is (same_dependency d) ds i d at ∙ same_dependency_itself d))

-- ---- memory is reserved only for a complete hash map

abbrev pub RoomTells : KeysView → Type 0
RoomTells v = v.room ≡ true → v.numbered ≡ length v.keys

pub room_tells : (list : List Dependency × Bool) (numbers : HashedView) (state : RandomState) → RoomTells (listed_by list numbers state)
room_tells list numbers state h =
    let a = length numbers.hashes in
    let b = length list.0 in
    elim (cases_eq a b) [
      | inl e ↦ e
      | inr e ↦ absurd (true≢false (sym h ∙ ap (λ c. c && numbers.room && list.1) (ne_eqb a b e)))
    ]
