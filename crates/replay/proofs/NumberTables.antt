-- The list of numbers, and the first places that it gives.
use Rattle.std.proofs.Common.{◌≡◌, ℕ, suc, ◌<◌, ◌≤◌, ◌↔◌, ◌⊎◌, inl, inr, List, [], ◌∷◌, ◌++◌, length, slice_get, Option, Some, None, MatchOption, sym, ap, subst, ◌∙◌, arith}
use Rattle.std.proofs.lemmas.Bool.{cases_lt, cases_eq}
use Rattle.std.proofs.lemmas.Option.{none-some, same_Some, slice_get_within}
use Rattle.std.specs.List.{Contains}
use Rattle.trace_model.specs.Theory.Trace.{Trace}
use Rattle.trace_model.specs.Theory.Dependencies.{Dependency, dependency_at, dependencies}
use Rattle.trace_model.specs.Theory.Refutation.{IsFirstFrom, AreFirstPlaces}
use Rattle.trace_model.proofs.Lists.{at_index, get-push, get-push_kept, get-push_last}
use Rattle.trace_model.proofs.Theory.Ascending.{place_of, contains_at}
use Rattle.trace_model.proofs.Theory.Dependencies.{numbered}
use Rattle.dependencies.specs.Tables.{DependencyTable, HasDependenciesOf, IsNoted, listing_places, dependency_places, DependencyTablesFollow, TablesStay}
use Rattle.replay.specs.Numbers.{AreNumbersByPlace, IsFirstWith}
use Rattle.replay.specs.Refuting.{IsFirstUnknown}

-- the result of a noted place
abbrev pub Noted : Option Dependency → DependencyTable → ℕ → Option ℕ → DependencyTable → Type 0
Noted o old n number new = MatchOption number
    ((o ≡ None) × (new.shown ≡ old.shown))
    (λ m. (d : Dependency) × (o ≡ Some d) × IsNoted old n d m new)

pub follows_more : DependencyTablesFollow → TablesStay → (s : Trace) (n : ℕ) (old new : DependencyTable) (o : Option Dependency) (number : Option ℕ) →
    HasDependenciesOf old s n → o ≡ dependency_at s n → Noted o old n number new → HasDependenciesOf new s (suc n)
follows_more follow stay s n old new o None f is (none, same) = stay old new s (suc n) same ((follow old new s n f).1 (sym is ∙ none))
follows_more follow stay s n old new o (Some m) f is (d, some, noted) = (follow old new s n f).2 d m (sym is ∙ some) noted

-- each place so far has its number in the list
abbrev pub Lists : List (Option ℕ) → DependencyTable → Type 0
Lists numbers table = (p m : ℕ) → (slice_get numbers p ≡ Some (Some m)) ↔ Contains (dependency_places table m) p

pub lists_more : (old new : DependencyTable) (n : ℕ) (o : Option Dependency) (number : Option ℕ) (xs : List (Option ℕ)) → length xs ≡ n →
    Noted o old n number new → Lists xs old → Lists (xs ++ number ∷ []) new
lists_more old new n o None xs len (none, same) h p m = (
  (λ e. elim (get-push xs None p (Some m) e) [
    | inl a ↦ subst (λ (listing : List (Dependency × List ℕ)). Contains (listing_places listing m) p) (sym same) ((h p m).0 a)
    | inr a ↦ absurd (none-some m a.1)
  ]),
  λ c. get-push_kept xs None p (Some m) ((h p m).1 (subst (λ (listing : List (Dependency × List ℕ)). Contains (listing_places listing m) p) same c)),
)
lists_more old new n o (Some k) xs len (d, some, noted) h p m = (
  (λ e. elim (get-push xs (Some k) p (Some m) e) [
    | inl a ↦ elim (cases_eq m k) [
      | inl is ↦ here is (kept (subst (λ x. Contains (listing_places old.shown x) p) is ((h p m).0 a)))
      | inr not_k ↦ subst (λ ps. Contains ps p) (sym (noted.elsewhere m not_k)) ((h p m).0 a)
    ]
    | inr a ↦ here (sym (same_Some k m a.1)) (contains_at (listing_places old.shown k ++ n ∷ []) p (length (listing_places old.shown k))
        (subst (λ x. slice_get (listing_places old.shown k ++ n ∷ []) (length (listing_places old.shown k)) ≡ Some x) (sym (a.0 ∙ len)) (get-push_last (listing_places old.shown k) n)))
  ]),
  λ c. elim (cases_eq m k) [
    | inl is ↦ there is (let (j, at) = place_of (listing_places old.shown k ++ n ∷ []) p (subst (λ ps. Contains ps p) noted.here (subst (λ x. Contains (listing_places new.shown x) p) is c)) in
        get-push (listing_places old.shown k) n j p at)
    | inr not_k ↦ get-push_kept xs (Some k) p (Some m) ((h p m).1 (subst (λ ps. Contains ps p) (noted.elsewhere m not_k) c))
  ],
)
  where
    kept : Contains (listing_places old.shown k) p → Contains (listing_places old.shown k ++ n ∷ []) p
    kept c = let (j, at) = place_of (listing_places old.shown k) p c in contains_at (listing_places old.shown k ++ n ∷ []) p j (get-push_kept (listing_places old.shown k) n j p at)

    here : m ≡ k → Contains (listing_places old.shown k ++ n ∷ []) p → Contains (listing_places new.shown m) p
    here is c = subst (λ x. Contains (listing_places new.shown x) p) (sym is) (subst (λ ps. Contains ps p) (sym noted.here) c)

    there : {j : ℕ} → m ≡ k → (slice_get (listing_places old.shown k) j ≡ Some p) ⊎ ((j ≡ length (listing_places old.shown k)) × (n ≡ p)) →
        slice_get (xs ++ Some k ∷ []) p ≡ Some (Some m)
    there {j} is (inl a) = get-push_kept xs (Some k) p (Some m) ((h p m).1 (subst (λ x. Contains (listing_places old.shown x) p) (sym is) (contains_at (listing_places old.shown k) p j a)))
    there {j} is (inr a) =
        subst (λ x. slice_get (xs ++ Some k ∷ []) x ≡ Some (Some m)) (len ∙ a.1) (get-push_last xs (Some k) ∙ ap (λ x. Some (Some x)) (sym is))

-- ---- first places

pub first_with : (s : Trace) (numbers : List (Option ℕ)) → AreNumbersByPlace s numbers → (m : ℕ) (d : Dependency) → slice_get (dependencies s) m ≡ Some d →
    (n : ℕ) (o : Option ℕ) → IsFirstWith numbers m n o → IsFirstFrom s d n o
first_with s numbers are m d at n None none = λ u low dep. none u low ((are u m).1 (d, dep, at))
first_with s numbers are m d at n (Some p) (low, has, least) =
    let (e, dep, is) = (are p m).0 has in (
      low,
      dep ∙ ap Some (same_Some e d (sym is ∙ at)),
      λ u l below k. least u l below ((are u m).1 (d, k, at)),
    )

pub known_by : (s : Trace) (numbers : List (Option ℕ)) → AreNumbersByPlace s numbers → (p m : ℕ) → slice_get numbers p ≡ Some (Some m) → m < length (dependencies s)
known_by s numbers are p m has = let (d, dep, at) = (are p m).0 has in slice_get_within (dependencies s) m d at

pub unknown_by : (s : Trace) (numbers : List (Option ℕ)) → AreNumbersByPlace s numbers → (m : ℕ) → ((u : ℕ) → 0 ≤ u → slice_get numbers u ≡ Some (Some m) → ⊥) →
    length (dependencies s) ≤ m
unknown_by s numbers are m none = elim (cases_lt m (length (dependencies s))) [
  | inl l ↦
      let (d, at) = at_index (dependencies s) m l in
      let there = (numbered s (length s)).appears m d at in
      absurd (none there.0 (omega arith) ((are there.0 m).1 (d, there.2, at)))
  | inr l ↦ l
]

-- the places are the first ones with these members
abbrev pub AreFirst : List (Option ℕ) → List ℕ → List ℕ → Type 0
AreFirst numbers members places = (i p : ℕ) → slice_get places i ≡ Some p → (m : ℕ) × (slice_get members i ≡ Some m) × IsFirstWith numbers m 0 (Some p)

pub first_unknown : (s : Trace) (numbers : List (Option ℕ)) → AreNumbersByPlace s numbers → (members places : List ℕ) (i m : ℕ) → length places ≡ i → AreFirst numbers members places →
    slice_get members i ≡ Some m → IsFirstWith numbers m 0 None → IsFirstUnknown s members m
first_unknown s numbers are members places i m len first at none = (
  i,
  at,
  unknown_by s numbers are m none,
  λ j n l e.
      let (p, h) = at_index places j (omega arith) in
      let (k, is, has) = first j p h in
      subst (λ x. x < length (dependencies s)) (same_Some k n (sym is ∙ e)) (known_by s numbers are p k has.1),
)

pub first_places_are : (s : Trace) (numbers : List (Option ℕ)) → AreNumbersByPlace s numbers → (members places : List ℕ) → length places ≡ length members → AreFirst numbers members places →
    AreFirstPlaces s members places
first_places_are s numbers are members places len first = (
  len,
  λ i p e.
      let (m, at, has) = first i p e in
      let (d, is) = at_index (dependencies s) m (known_by s numbers are p m has.1) in
      (d, (m, at, is), first_with s numbers are m d is 0 (Some p) has),
)

pub first_more : (numbers : List (Option ℕ)) (members places : List ℕ) (i q m : ℕ) → length places ≡ i → slice_get members i ≡ Some m → IsFirstWith numbers m 0 (Some q) →
    AreFirst numbers members places → AreFirst numbers members (places ++ q ∷ [])
first_more numbers members places i q m len at has first j p e = elim (get-push places q j p e) [
  | inl a ↦ first j p a
  | inr a ↦ (m, subst (λ x. slice_get members x ≡ Some m) (sym (a.0 ∙ len)) at, subst (λ x. IsFirstWith numbers m 0 (Some x)) a.1 has)
]
