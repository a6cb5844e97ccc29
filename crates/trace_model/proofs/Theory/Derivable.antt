-- A derivation that cannot be continued has all places of the closure.
use Rattle.std.proofs.Common.{◌≡◌, ℕ, zero, suc, ◌<◌, ◌≤◌, ◌⊎◌, inl, inr, Bool, true, false, not, cond, ltb, ◌==◌, ◌&&◌, ◌||◌, List, [], ◌∷◌, ◌++◌, length, take, slice_get, Option, Some, None, refl, sym, ap, subst, ◌∙◌, arith}
use Rattle.std.proofs.lemmas.Bool.{eqb-true, eq-eqb, false≢true, or_cases, or_left, or_right, and_parts, and_from, cases_lt, ltb-true, lt-ltb}
use Rattle.std.proofs.lemmas.List.{map-append, take-append-le}
use Rattle.std.proofs.lemmas.Option.{none-some, slice_get_within}
use Rattle.std.specs.List.{Contains, list_any}
use Rattle.std.specs.Option.{option_map_or}
use Rattle.trace_model.specs.declared.traces.event.Event.{Event}
use Rattle.trace_model.specs.declared.traces.event.Op.{Op}
use Rattle.trace_model.specs.declared.traces.event.Op.TheVariants.{Fork, Join, Acquire, Release, Read, Write}
use Rattle.trace_model.specs.declared.refutations.Reason.{Reason}
use Rattle.trace_model.specs.declared.refutations.Reason.TheVariants.{BeforeMember, ThreadOrder, ForkJoin, ReadsFrom, Sections}
use Rattle.trace_model.specs.declared.refutations.Derived.{Derived}
use Rattle.trace_model.specs.Theory.Trace.{Trace, event, At, OfThread, EarlierInThread, does, last_place}
use Rattle.trace_model.specs.Theory.Held.{BeginsOn, begun_lock}
use Rattle.trace_model.specs.Theory.Lookups.{writer, release}
use Rattle.trace_model.specs.Theory.Reordering.{ForkOrJoin}
use Rattle.trace_model.specs.Theory.Closure.{Places, IsClosed, HoldsPredecessors}
use Rattle.trace_model.specs.Theory.Refutation.{BeginOnOneLock, Justifies, derived_places, IsDerivation}
use Rattle.trace_model.proofs.Lists.{get-push, get-push_kept, get-push_last, take-push, some_passes, passes_some}
use Rattle.trace_model.proofs.Theory.Places.{does_so, last_place_some, last_place_none}
use Rattle.trace_model.proofs.Theory.Ascending.{place_of, contains_at, listed, listed_so, listed_from, listed_contains}
use Rattle.trace_model.proofs.Theory.Lookups.{writer_so, release_so}
use Rattle.trace_model.proofs.Theory.Begun.{begun_so, begun_from}
use Rattle.trace_model.proofs.Theory.Computed.{of_thread, needs, needs_by, needs_earlier, needs_fork_join, earlier_at, earlier_from}

-- ---- tests of reasons

abbrev pub is_place : Option ℕ → ℕ → Bool
is_place o p = option_map_or (λ q. q == p) o false

is_place_so : (o : Option ℕ) (p : ℕ) → is_place o p ≡ true → o ≡ Some p
is_place_so None p h = absurd (false≢true h)
is_place_so (Some q) p h = ap Some (eqb-true q p h)

is_place_from : (o : Option ℕ) (p : ℕ) → o ≡ Some p → is_place o p ≡ true
is_place_from o p h = rw h (eq-eqb p p refl)

pub of_thread_so : (s : Trace) (t p : ℕ) → of_thread s t p ≡ true → OfThread s p t
of_thread_so s t p h = go (slice_get s p) refl h
  where
    go : (o : Option Event) → slice_get s p ≡ o → option_map_or (λ e. e.thread == t) o false ≡ true → OfThread s p t
    go None e k = absurd (false≢true k)
    go (Some x) e k = subst (OfThread s p) (eqb-true x.thread t k) (x.op, e)

pub earlier_so : (s : Trace) (q p : ℕ) → earlier_at s q p ≡ true → EarlierInThread s q p
earlier_so s q p h = go (slice_get s p) refl h
  where
    go : (o : Option Event) → slice_get s p ≡ o → option_map_or (λ e. ltb q p && of_thread s e.thread q) o false ≡ true → EarlierInThread s q p
    go None e k = absurd (false≢true k)
    go (Some x) e k =
        let both = and_parts (ltb q p) (of_thread s x.thread q) k in
        (x.thread, of_thread_so s x.thread q both.1, (x.op, e), ltb-true q p both.0)

needs_so : (s : Trace) (p q : ℕ) → needs s p q ≡ true → EarlierInThread s p q ⊎ ForkOrJoin s p q
needs_so s p q h = go (slice_get s q) refl h
  where
    plain : (t : ℕ) (o : Op) → At s q (event t o) → (b : Bool) → (b ≡ true → ForkOrJoin s p q) →
        ((ltb p q && of_thread s t p) || (does s (Fork t) p || b)) ≡ true → EarlierInThread s p q ⊎ ForkOrJoin s p q
    plain t o at b more k = elim (or_cases (ltb p q && of_thread s t p) (does s (Fork t) p || b) k) [
      | inl x ↦
          let both = and_parts (ltb p q) (of_thread s t p) x in
          inl (t, of_thread_so s t p both.1, (o, at), ltb-true p q both.0)
      | inr x ↦ elim (or_cases (does s (Fork t) p) b x) [
        | inl y ↦ inr (inl (t, (o, at), does_so s (Fork t) p y))
        | inr y ↦ inr (more y)
      ]
    ]

    joined : (t c : ℕ) → At s q (event t (Join c)) → (does s (Fork c) p || of_thread s c p) ≡ true → ForkOrJoin s p q
    joined t c at k = elim (or_cases (does s (Fork c) p) (of_thread s c p) k) [
      | inl x ↦ inr (c, (t, at), inl (does_so s (Fork c) p x))
      | inr x ↦ inr (c, (t, at), inr (of_thread_so s c p x))
    ]

    by_op : (t : ℕ) (o : Op) → At s q (event t o) → needs_by s p q (event t o) ≡ true → EarlierInThread s p q ⊎ ForkOrJoin s p q
    by_op t (Join c) at k = plain t (Join c) at (does s (Fork c) p || of_thread s c p) (joined t c at) k
    by_op t (Fork c) at k = plain t (Fork c) at false (λ x. absurd (false≢true x)) k
    by_op t (Acquire c) at k = plain t (Acquire c) at false (λ x. absurd (false≢true x)) k
    by_op t (Release c) at k = plain t (Release c) at false (λ x. absurd (false≢true x)) k
    by_op t (Read c) at k = plain t (Read c) at false (λ x. absurd (false≢true x)) k
    by_op t (Write c) at k = plain t (Write c) at false (λ x. absurd (false≢true x)) k

    go : (o : Option Event) → slice_get s q ≡ o → option_map_or (needs_by s p q) o false ≡ true → EarlierInThread s p q ⊎ ForkOrJoin s p q
    go None e k = absurd (false≢true k)
    go (Some x) e k = by_op x.thread x.op e k

abbrev pub same_lock : Option ℕ → Option ℕ → Bool
same_lock None o = false
same_lock (Some l) o = is_place o l

same_lock_so : (s : Trace) (a b : ℕ) → same_lock (begun_lock s a) (begun_lock s b) ≡ true → BeginOnOneLock s a b
same_lock_so s a b h = go (begun_lock s a) refl h
  where
    go : (o : Option ℕ) → begun_lock s a ≡ o → same_lock o (begun_lock s b) ≡ true → BeginOnOneLock s a b
    go None e k = absurd (false≢true k)
    go (Some l) e k = (l, begun_so s a l e, begun_so s b l (is_place_so (begun_lock s b) l k))

same_lock_from : (s : Trace) (a b l : ℕ) → BeginsOn s a l → BeginsOn s b l → same_lock (begun_lock s a) (begun_lock s b) ≡ true
same_lock_from s a b l x y = rw (begun_from s a l x, begun_from s b l y) (eq-eqb l l refl)

-- the release at p ends the earlier of two sections that begin at a and b
abbrev pub released_by : Trace → ℕ → ℕ → ℕ → Bool
released_by s p a b = (ltb a b && same_lock (begun_lock s a) (begun_lock s b)) && is_place (release s a) p

-- the event at q needs p, or reads what p wrote
abbrev pub required_by : Trace → ℕ → ℕ → Bool
required_by s p q = needs s p q || is_place (writer s q) p

-- some reason holds for place p
abbrev pub derivable : Trace → List ℕ → List ℕ → ℕ → Bool
derivable s places derived p =
    list_any (earlier_at s p) places
    || (list_any (required_by s p) derived || list_any (λ a. list_any (released_by s p a) derived) derived)

derivable_so : (s : Trace) (places derived : List ℕ) (p : ℕ) → derivable s places derived p ≡ true →
    (r : Reason) × Justifies s places derived r p
derivable_so s places derived p h =
    elim (or_cases (list_any (earlier_at s p) places) _ h) [
      | inl x ↦
          let (k, q, at, e) = some_passes (earlier_at s p) places x in
          (BeforeMember q, (contains_at places q k at, earlier_so s p q e))
      | inr y ↦ elim (or_cases (list_any (required_by s p) derived) _ y) [
        | inl x ↦
            let (k, q, at, e) = some_passes (required_by s p) derived x in
            by_one q (contains_at derived q k at) e
        | inr x ↦
            let (k, a, at, e) = some_passes (λ a. list_any (released_by s p a) derived) derived x in
            let (j, b, bt, f) = some_passes (released_by s p a) derived e in
            by_two a b (contains_at derived a k at) (contains_at derived b j bt) f
      ]
    ]
  where
    by_one : (q : ℕ) → Contains derived q → required_by s p q ≡ true → (r : Reason) × Justifies s places derived r p
    by_one q c e = elim (or_cases (needs s p q) (is_place (writer s q) p) e) [
      | inl x ↦ elim (needs_so s p q x) [
        | inl y ↦ (ThreadOrder q, (c, y))
        | inr y ↦ (ForkJoin q, (c, y))
      ]
      | inr x ↦ (ReadsFrom q, (c, is_place_so (writer s q) p x))
    ]

    by_two : (a b : ℕ) → Contains derived a → Contains derived b → released_by s p a b ≡ true → (r : Reason) × Justifies s places derived r p
    by_two a b c d e =
        let x = and_parts (ltb a b && same_lock (begun_lock s a) (begun_lock s b)) (is_place (release s a) p) e in
        let y = and_parts (ltb a b) (same_lock (begun_lock s a) (begun_lock s b)) x.0 in
        (Sections a b, (c, d, ltb-true a b y.0, same_lock_so s a b y.1, is_place_so (release s a) p x.1))

passes_contained : (f : ℕ → Bool) (xs : List ℕ) (x : ℕ) → Contains xs x → f x ≡ true → list_any f xs ≡ true
passes_contained f xs x c h = let (k, at) = place_of xs x c in passes_some f xs k x at h

-- if no other place has a reason, then the derived places are closed and hold the predecessors
abbrev pub IsComplete : Trace → List ℕ → List ℕ → Type 0
IsComplete s places derived = (p : ℕ) → derivable s places derived p ≡ true → listed derived p ≡ true

required : (s : Trace) (places derived : List ℕ) → IsComplete s places derived → (p q : ℕ) → listed derived q ≡ true → required_by s p q ≡ true →
    listed derived p ≡ true
required s places derived h p q c e = h p (or_right (list_any (earlier_at s p) places) _
    (or_left (list_any (required_by s p) derived) _ (passes_contained (required_by s p) derived q (listed_contains derived q c) e)))

pub complete_closes : (s : Trace) (places derived : List ℕ) → IsComplete s places derived → IsClosed s (listed derived)
complete_closes s places derived h = record {
  threads = λ p q c e. required s places derived h p q c (or_left (needs s p q) _ (needs_earlier s p q e));
  forks_joins = λ p q c e. required s places derived h p q c (or_left (needs s p q) _ (needs_fork_join s p q e));
  writers = λ w q c e. required s places derived h w q c (or_right (needs s w q) _ (is_place_from (writer s q) w e));
  sections = λ a b p l below x y c d e. h p (or_right (list_any (earlier_at s p) places) _
      (or_right (list_any (required_by s p) derived) _
      (passes_contained (λ a. list_any (released_by s p a) derived) derived a (listed_contains derived a c)
      (passes_contained (released_by s p a) derived b (listed_contains derived b d)
      (and_from (ltb a b && same_lock (begun_lock s a) (begun_lock s b)) _
      (and_from (ltb a b) _ (lt-ltb a b below) (same_lock_from s a b l x y))
      (is_place_from (release s a) p e))))));
}

pub complete_holds : (s : Trace) (places derived : List ℕ) → IsComplete s places derived → HoldsPredecessors s places (listed derived)
complete_holds s places derived h p q c e =
    h q (or_left (list_any (earlier_at s q) places) _ (passes_contained (earlier_at s q) places p c (earlier_from s q p e)))

-- ---- one more entry

pub derived_push : (entries : List Derived) (d : Derived) → derived_places (entries ++ d ∷ []) ≡ derived_places entries ++ d.place ∷ []
derived_push entries d = map-append (λ (x : Derived). x.place) entries (d ∷ [])

pub one_more_derived : (s : Trace) (places : List ℕ) (entries : List Derived) (d : Derived) → IsDerivation s places entries →
    Justifies s places (derived_places entries) d.reason d.place → IsDerivation s places (entries ++ d ∷ [])
one_more_derived s places entries d h j k e at = elim (get-push entries d k e at) [
  | inl a ↦
      let low = slice_get_within entries k e a in
      let same : take k (entries ++ d ∷ []) ≡ take k entries = take-append-le k entries (d ∷ []) (omega arith) in
      subst (λ (xs : List Derived). Justifies s places (derived_places xs) e.reason e.place) (sym same) (h k e a)
  | inr a ↦
      let same : take k (entries ++ d ∷ []) ≡ entries = ap (λ n. take n (entries ++ d ∷ [])) a.0 ∙ take-push entries d in
      subst (λ (xs : List Derived). Justifies s places (derived_places xs) e.reason e.place) (sym same)
      (subst (λ (x : Derived). Justifies s places (derived_places entries) x.reason x.place) a.1 j)
]

-- ---- the number of places below n that are not in a set

abbrev missing : Places → ℕ → ℕ
missing set zero = 0
missing set (suc n) = cond (set n) (missing set n) (suc (missing set n))

missing_le : (f g : Places) → ((x : ℕ) → f x ≡ true → g x ≡ true) → (n : ℕ) → missing g n ≤ missing f n
missing_le f g sub zero = omega arith
missing_le f g sub (suc n) = go (f n) (g n) (sub n) (missing_le f g sub n)
  where
    go : (a b : Bool) → (a ≡ true → b ≡ true) → missing g n ≤ missing f n →
        cond b (missing g n) (suc (missing g n)) ≤ cond a (missing f n) (suc (missing f n))
    go true true h l = l
    go true false h l = absurd (false≢true (h refl))
    go false true h l = omega (arith, l)
    go false false h l = omega (arith, l)

missing_less : (f g : Places) → ((x : ℕ) → f x ≡ true → g x ≡ true) → (n p : ℕ) → p < n → f p ≡ false → g p ≡ true → missing g n < missing f n
missing_less f g sub zero p low a b = absurd (omega arith)
missing_less f g sub (suc n) p low a b = elim (cases_lt p n) [
  | inl l ↦ go (f n) (g n) (sub n) (missing_less f g sub n p l a b)
  | inr l ↦
      let same : p ≡ n = omega arith in
      let x : f n ≡ false = subst (λ y. f y ≡ false) same a in
      let y : g n ≡ true = subst (λ y. g y ≡ true) same b in
      rw (x, y) (omega (arith, missing_le f g sub n))
]
  where
    go : (a b : Bool) → (a ≡ true → b ≡ true) → missing g n < missing f n →
        cond b (missing g n) (suc (missing g n)) < cond a (missing f n) (suc (missing f n))
    go true true h l = l
    go true false h l = absurd (false≢true (h refl))
    go false true h l = omega (arith, l)
    go false false h l = omega (arith, l)

-- ---- a derivation that cannot be continued

pub derivable_within : (s : Trace) (places derived : List ℕ) (p : ℕ) (r : Reason) → Justifies s places derived r p → p < length s
derivable_within s places derived p (BeforeMember q) (c, e) = slice_get_within s p _ e.1.1
derivable_within s places derived p (ThreadOrder q) (c, e) = slice_get_within s p _ e.1.1
derivable_within s places derived p (ForkJoin q) (c, e) = needed e
  where
    needed : ForkOrJoin s p q → p < length s
    needed (inl (t, o, f)) = slice_get_within s p _ f.1
    needed (inr (c, j, inl f)) = slice_get_within s p _ f.1
    needed (inr (c, j, inr o)) = slice_get_within s p _ o.1
derivable_within s places derived p (ReadsFrom q) (c, e) = slice_get_within s p _ (writer_so s q p e).2.1.1
derivable_within s places derived p (Sections a b) (c, d, l, m, e) = slice_get_within s p _ (release_so s a p e).3.1.0

-- a derivation with all places that have a reason
abbrev pub IsWhole : Trace → List ℕ → List Derived → Type 0
IsWhole s places entries = IsDerivation s places entries × IsComplete s places (derived_places entries)

listed_more : (xs : List ℕ) (y x : ℕ) → listed xs x ≡ true → listed (xs ++ y ∷ []) x ≡ true
listed_more xs y x h = let (k, at) = listed_so xs x h in listed_from (xs ++ y ∷ []) x k (get-push_kept xs y k x at)

listed_last : (xs : List ℕ) (y : ℕ) → listed (xs ++ y ∷ []) y ≡ true
listed_last xs y = listed_from (xs ++ y ∷ []) y (length xs) (get-push_last xs y)

abbrev fresh : Trace → List ℕ → List ℕ → ℕ → Bool
fresh s places derived p = derivable s places derived p && not (listed derived p)

none_fresh : (s : Trace) (places derived : List ℕ) → ((p : ℕ) → p < length s → fresh s places derived p ≡ true → ⊥) → IsComplete s places derived
none_fresh s places derived none p h = go (listed derived p) refl
  where
    go : (b : Bool) → listed derived p ≡ b → b ≡ true
    go true e = refl
    go false e =
        let (r, j) = derivable_so s places derived p h in
        absurd (none p (derivable_within s places derived p r j)
        (and_from (derivable s places derived p) (not (listed derived p)) h (ap not e)))

step_of : (s : Trace) (places : List ℕ) (entries : List Derived) → IsDerivation s places entries → (o : Option ℕ) →
    last_place (fresh s places (derived_places entries)) (length s) ≡ o →
    ((more : List Derived) → IsDerivation s places more →
    missing (listed (derived_places more)) (length s) < missing (listed (derived_places entries)) (length s) → (all : List Derived) × IsWhole s places all) →
    (all : List Derived) × IsWhole s places all
step_of s places entries h None e more =
    (entries, (h, none_fresh s places (derived_places entries) (last_place_none (fresh s places (derived_places entries)) (length s) e)))
step_of s places entries h (Some p) e more =
    let derived = derived_places entries in
    let is = last_place_some (fresh s places derived) (length s) p e in
    let both = and_parts (derivable s places derived p) (not (listed derived p)) is.1 in
    let (r, j) = derivable_so s places derived p both.0 in
    let d : Derived = record { place = p; reason = r } in
    let pushed : derived_places (entries ++ d ∷ []) ≡ derived ++ p ∷ [] = derived_push entries d in
    more (entries ++ d ∷ []) (one_more_derived s places entries d h j)
    (subst (λ xs. missing (listed xs) (length s) < missing (listed derived) (length s)) (sym pushed)
    (missing_less (listed derived) (listed (derived ++ p ∷ [])) (listed_more derived p) (length s) p is.0
    (not_true (listed derived p) both.1) (listed_last derived p)))
  where
    not_true : (b : Bool) → not b ≡ true → b ≡ false
    not_true true h = absurd (false≢true h)
    not_true false h = refl

continued : (s : Trace) (places : List ℕ) (n : ℕ) (entries : List Derived) → IsDerivation s places entries →
    missing (listed (derived_places entries)) (length s) ≤ n → (all : List Derived) × IsWhole s places all
continued s places zero entries h low = step_of s places entries h (last_place (fresh s places (derived_places entries)) (length s)) refl
    (λ more d l. absurd (omega (arith, low, l)))
continued s places (suc n) entries h low = step_of s places entries h (last_place (fresh s places (derived_places entries)) (length s)) refl
    (λ more d l. continued s places n more d (omega (arith, low, l)))

pub whole_derivation : (s : Trace) (places : List ℕ) → (all : List Derived) × IsWhole s places all
whole_derivation s places = continued s places (missing (listed []) (length s)) [] (λ k d h. absurd (none-some d h)) (omega arith)
