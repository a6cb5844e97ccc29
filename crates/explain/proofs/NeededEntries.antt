-- The entries that a place needs.
use Rattle.std.specs.Prelude.{◌≢◌}
use Rattle.std.proofs.Common.{◌≡◌, ℕ, suc, ◌+◌, ◌<◌, ◌⊎◌, inl, inr, Bool, true, false, List, [], ◌∷◌, ◌++◌, take, slice_get, Some, refl, sym, ap, subst, ◌∙◌, arith}
use Rattle.std.proofs.lemmas.List.Elements.{Contains-append_left, Contains-push}
use Rattle.std.proofs.lemmas.Bool.{false≢true, cases_lt}
use Rattle.std.proofs.lemmas.Option.{none-some, same_Some, slice_get-map}
use Rattle.std.specs.Option.{option_map}
use Rattle.std.specs.List.{Contains}
use Rattle.trace_model.specs.declared.refutations.Reason.{Reason}
use Rattle.trace_model.specs.declared.refutations.Reason.TheVariants.{BeforeMember, ThreadOrder, ForkJoin, ReadsFrom, Sections}
use Rattle.trace_model.specs.declared.refutations.Derived.{Derived}
use Rattle.trace_model.specs.Theory.Trace.{Trace}
use Rattle.trace_model.specs.Theory.Refutation.{Justifies, derived_places, IsDerivation}
use Rattle.trace_model.proofs.Lists.{get-take, get-take_past}
use Rattle.trace_model.proofs.Theory.Ascending.{place_of, contains_at}
use Rattle.trace_model.proofs.Theory.Derivable.{derived_push, one_more_derived}
use Rattle.trace_model.proofs.Theory.Refutation.{entry_of}
use Rattle.explain.specs.declared.search.DerivationSearch.{DerivationSearch}
use Rattle.explain.specs.DerivationSearch.{derived_by, IsSearch}
use Rattle.explain.specs.Needed.{Names, IsNeeded, KeepsMarks, AreClosed, IsNeededDerivation}

-- a reason holds if the places that it names are derived
named : (s : Trace) (places xs : List ℕ) (r : Reason) (p q : ℕ) → Justifies s places xs r p → Names r q → Contains xs q
named s places xs (BeforeMember z) p q j n = absurd n
named s places xs (ThreadOrder z) p q (c, e) n = subst (Contains xs) n c
named s places xs (ForkJoin z) p q (c, e) n = subst (Contains xs) n c
named s places xs (ReadsFrom z) p q (c, e) n = subst (Contains xs) n c
named s places xs (Sections a b) p q (c, d, l, m, e) (inl n) = subst (Contains xs) n c
named s places xs (Sections a b) p q (c, d, l, m, e) (inr n) = subst (Contains xs) n d

justified_by_named : (s : Trace) (places xs ys : List ℕ) (r : Reason) (p : ℕ) → ((q : ℕ) → Names r q → Contains ys q) → Justifies s places xs r p → Justifies s places ys r p
justified_by_named s places xs ys (BeforeMember z) p f j = j
justified_by_named s places xs ys (ThreadOrder z) p f (c, e) = (f z refl, e)
justified_by_named s places xs ys (ForkJoin z) p f (c, e) = (f z refl, e)
justified_by_named s places xs ys (ReadsFrom z) p f (c, e) = (f z refl, e)
justified_by_named s places xs ys (Sections a b) p f (c, d, l, m, e) = (f a (inl refl), f b (inr refl), l, m, e)

entry_place : (x : DerivationSearch) (i : ℕ) (d : Derived) → slice_get x.entries.items i ≡ Some d → slice_get (derived_by x) i ≡ Some d.place
entry_place x i d at = slice_get-map (λ (z : Derived). z.place) x.entries.items i ∙ ap (option_map (λ (z : Derived). z.place)) at

-- the places that a reason names are derived before
named_before : (s : Trace) (places : List ℕ) (x : DerivationSearch) → IsSearch s places x → (i q : ℕ) (d : Derived) → slice_get x.entries.items i ≡ Some d → Names d.reason q →
    (j : ℕ) × (j < i) × (slice_get (derived_by x) j ≡ Some q)
named_before s places x is i q d at n =
    let c = named s places (derived_places (take i x.entries.items)) d.reason d.place q (is.derives i d at) n in
    let (j, here) = place_of (derived_places (take i x.entries.items)) q c in
    let (e, entry, same) = entry_of (take i x.entries.items) j q here in
    let low = get-take_past i x.entries.items j e entry in
    (j, low, entry_place x j e (sym (get-take i x.entries.items j low) ∙ entry) ∙ ap Some same)

-- one more entry is closed
pub closed_more : (s : Trace) (places : List ℕ) (x : DerivationSearch) (old new : List Bool) (i n : ℕ) (d : Derived) → IsSearch s places x → slice_get x.entries.items i ≡ Some d → suc i ≡ n →
    KeepsMarks old new → ((m : ℕ) → IsNeeded new m → IsNeeded old m ⊎ ((q : ℕ) × Names d.reason q × (slice_get (derived_by x) m ≡ Some q))) →
    ((q : ℕ) → Names d.reason q → Contains (derived_by x) q → (j : ℕ) × (slice_get (derived_by x) j ≡ Some q) × IsNeeded new j) →
    AreClosed x old n → AreClosed x new i
closed_more s places x old new i n d is at next kept only marked h m q e low needed there names =
    elim (cases_lt i m) [
      | inl l ↦ elim (only m needed) [
        | inl a ↦ let (j, less, here, k) = h m q e (omega (arith, l, next)) a there names in (j, less, here, kept j k)
        | inr (z, b, here) ↦
            let (j, less, also) = named_before s places x is i z d at b in
            absurd (omega (arith, l, less, is.distinct m j z here also))
      ]
      | inr l ↦
          let same : m ≡ i = omega arith in
          let entry : d ≡ e = same_Some d e (sym at ∙ subst (λ z. slice_get x.entries.items z ≡ Some e) same there) in
          let names_d : Names d.reason q = subst (λ (z : Derived). Names z.reason q) (sym entry) names in
          let (j, less, here) = named_before s places x is i q d at names_d in
          let (k, also, mark) = marked q names_d (contains_at (derived_by x) q j here) in
          (k, omega (arith, less, same, is.distinct k j q also here), also, mark)
    ]

-- an entry that is not marked is closed
pub closed_skip : (x : DerivationSearch) (needed : List Bool) (i n : ℕ) → slice_get needed i ≡ Some false → suc i ≡ n → AreClosed x needed n → AreClosed x needed i
closed_skip x needed i n off next h m q e low mark there names = elim (cases_lt i m) [
  | inl l ↦ h m q e (omega (arith, l, next)) mark there names
  | inr l ↦
      let same : m ≡ i = omega arith in
      absurd (false≢true (same_Some false true (sym off ∙ subst (λ z. slice_get needed z ≡ Some true) same mark)))
]

-- one more marked entry is derived
pub needed_derives : (s : Trace) (places : List ℕ) (x : DerivationSearch) (needed : List Bool) (place i : ℕ) (d : Derived) (made : List Derived) → IsSearch s places x →
    AreClosed x needed 0 → IsNeeded needed i → slice_get x.entries.items i ≡ Some d → IsNeededDerivation s places x needed place i made →
    IsDerivation s places (made ++ d ∷ [])
needed_derives s places x needed place i d made is closed mark at (h, f) =
    one_more_derived s places made d h (justified_by_named s places _ (derived_places made) d.reason d.place
    (λ q n. let (j, less, here, k) = closed i q d (omega arith) mark at n in (f j q less k here).0) (is.derives i d at))

-- one more marked entry of another place
pub needed_more : (s : Trace) (places : List ℕ) (x : DerivationSearch) (needed : List Bool) (place i : ℕ) (d : Derived) (made : List Derived) → IsSearch s places x →
    AreClosed x needed 0 → IsNeeded needed i → slice_get x.entries.items i ≡ Some d → d.place ≢ place → IsNeededDerivation s places x needed place i made →
    IsNeededDerivation s places x needed place (i + 1) (made ++ d ∷ [])
needed_more s places x needed place i d made is closed mark at other h = (
  needed_derives s places x needed place i d made is closed mark at h,
  λ j p l k here. elim (cases_lt j i) [
    | inl a ↦
        let (c, differs) = h.1 j p a k here in
        (subst (λ xs. Contains xs p) (sym (derived_push made d)) (Contains-append_left (derived_places made) (d.place ∷ []) p c), differs)
    | inr a ↦
        let same : j ≡ i = omega arith in
        let is_place : d.place ≡ p = same_Some d.place p (sym (entry_place x i d at) ∙ subst (λ z. slice_get (derived_by x) z ≡ Some p) same here) in (
          subst (λ xs. Contains xs p) (sym (derived_push made d))
              (subst (Contains (derived_places made ++ d.place ∷ [])) is_place (Contains-push (derived_places made) d.place)),
          λ e. other (is_place ∙ e),
        )
  ],
)

pub needed_skip : (s : Trace) (places : List ℕ) (x : DerivationSearch) (needed : List Bool) (place i : ℕ) (made : List Derived) → slice_get needed i ≡ Some false →
    IsNeededDerivation s places x needed place i made → IsNeededDerivation s places x needed place (i + 1) made
needed_skip s places x needed place i made off (h, f) = (
  h,
  λ j p l k here. elim (cases_lt j i) [
    | inl a ↦ f j p a k here
    | inr a ↦
        let same : j ≡ i = omega arith in
        absurd (false≢true (same_Some false true (sym off ∙ subst (λ z. slice_get needed z ≡ Some true) same k)))
  ],
)

pub none_needed : (s : Trace) (places : List ℕ) (x : DerivationSearch) (needed : List Bool) (place : ℕ) → IsNeededDerivation s places x needed place 0 []
none_needed s places x needed place = (λ k d h. absurd (none-some d h), λ j p l. absurd (omega arith))
