-- The state of a search for derived places.
use Rattle.std.specs.Prelude.{◌≡◌, ℕ, ◌<◌, ◌≤◌, ◌⊎◌, List, [], ◌++◌, length, slice_get, Option, Some, None, MatchOption}
use Rattle.std.specs.List.{Contains}
use Rattle.trace_model.specs.declared.refutations.Derived.{Derived}
use Rattle.trace_model.specs.declared.traces.event.Op.TheVariants.{Fork, Join}
use Rattle.trace_model.specs.Theory.Trace.{Trace, Does, OfThread, EarlierInThread}
use Rattle.trace_model.specs.Theory.Held.{BeginsOn}
use Rattle.trace_model.specs.Theory.Lookups.{writer, release}
use Rattle.trace_model.specs.Theory.Reordering.{ForkOrJoin}
use Rattle.trace_model.specs.Theory.Refutation.{Justifies, derived_places, IsDerivation}
use Rattle.explain.specs.declared.tables.Prefix.{Prefix}
use Rattle.explain.specs.declared.search.Range.{Range}
use Rattle.explain.specs.declared.search.DerivationSearch.{DerivationSearch}
use Rattle.explain.specs.Tables.{prefix_at}
use Rattle.explain.specs.EntryTable.{AreIndices}

-- The places that have entries, in the order in which they were found.
abbrev pub derived_by : DerivationSearch → List ℕ
derived_by x = derived_places x.entries.items

-- The table of indices is that of the entries.
abbrev pub HasIndices : DerivationSearch → Type 0
HasIndices x = AreIndices x.indices (derived_by x)

-- Place p is at or before the last one, in its thread.
abbrev pub IsUpTo : Trace → ℕ → Option ℕ → Type 0
IsUpTo s p last = (f : ℕ) × (t : ℕ) × (last ≡ Some f) × OfThread s p t × OfThread s f t × (p ≤ f)

-- The table has this prefix of the place's thread, and it contains the place.
abbrev pub Gives : Trace → DerivationSearch → ℕ → Prefix → Type 0
Gives s x p r = (t : ℕ) × (prefix_at x.threads t ≡ Some r) × OfThread s p t × (p ≤ r.last)

-- The place is derived: the prefix of its thread contains it.
abbrev pub IsDerived : Trace → DerivationSearch → ℕ → Type 0
IsDerived s x p = (r : Prefix) × Gives s x p r

-- Each place of the prefix has an entry, or the prefix's reason justifies it.
abbrev pub Covers : Trace → List ℕ → DerivationSearch → Prefix → Type 0
Covers s places x r = (p : ℕ) → IsUpTo s p (Some r.last) →
    Contains (derived_by x) p ⊎ Justifies s places (derived_by x) r.reason p

-- The prefix is derived and covered.
abbrev pub IsIn : Trace → List ℕ → DerivationSearch → Prefix → Type 0
IsIn s places x r = IsDerived s x r.last × Covers s places x r

-- Place p is in the range.
abbrev pub InRange : Trace → Range → ℕ → Type 0
InRange s r p = IsUpTo s p (Some r.prefix.last) × ((a : ℕ) → r.after ≡ Some a → a < p)

-- The entries are a derivation for the places, the tables are those of the entries, the prefixes
-- are covered, and each derived place is in a range.
pub record IsSearch (s : Trace) (places : List ℕ) (x : DerivationSearch) : Type 0 where
  pub derives : IsDerivation s places x.entries.items
  pub indices : HasIndices x
  pub distinct : (i j p : ℕ) → slice_get (derived_by x) i ≡ Some p →
      slice_get (derived_by x) j ≡ Some p → i ≡ j
  pub threads : (t : ℕ) (r : Prefix) → prefix_at x.threads t ≡ Some r →
      OfThread s r.last t × Covers s places x r
  pub locks : (l : ℕ) (r : Prefix) → prefix_at x.locks l ≡ Some r → IsIn s places x r
  pub ranges : (i : ℕ) (r : Range) → slice_get x.ranges.items i ≡ Some r →
      IsIn s places x r.prefix
  pub all : (p : ℕ) → IsDerived s x p →
      (i : ℕ) × (r : Range) × (slice_get x.ranges.items i ≡ Some r) × InRange s r p

-- Nothing is derived.
pub record IsBlankSearch (x : DerivationSearch) : Type 0 where
  pub entries : x.entries.items ≡ []
  pub threads : (t : ℕ) → prefix_at x.threads t ≡ None
  pub ranges : x.ranges.items ≡ []
  pub locks : (l : ℕ) → prefix_at x.locks l ≡ None

-- The new search has the entries, ranges and derived places of the old one, and perhaps more.
pub record Extends (s : Trace) (old new : DerivationSearch) : Type 0 where
  pub entries : (more : List Derived) × (new.entries.items ≡ old.entries.items ++ more)
  pub ranges : (i : ℕ) (r : Range) → slice_get old.ranges.items i ≡ Some r →
      slice_get new.ranges.items i ≡ Some r
  pub has : (p : ℕ) → IsDerived s old p → IsDerived s new p

-- The new search has an entry for the place.
abbrev pub AddsEntry : Trace → List ℕ → DerivationSearch → ℕ → DerivationSearch → Type 0
AddsEntry s places old p new = IsSearch s places new × Extends s old new
    × Contains (derived_by new) p

-- The new search has derived each place with the property.
abbrev pub CoversAll : Trace → List ℕ → DerivationSearch → (ℕ → Type 0) → DerivationSearch → Type 0
CoversAll s places old P new = IsSearch s places new × Extends s old new
    × ((p : ℕ) → P p → IsDerived s new p)

-- Place q is a join, and p is the fork or a place of the joined thread.
abbrev pub IsJoined : Trace → ℕ → ℕ → Type 0
IsJoined s q p = (c : ℕ) × Does s q (Join c) × (Does s p (Fork c) ⊎ OfThread s p c)

-- A closed set that contains place q contains place p.
abbrev pub IsDirectlyRequired : Trace → ℕ → ℕ → Type 0
IsDirectlyRequired s q p = EarlierInThread s p q ⊎ (ForkOrJoin s p q ⊎ (writer s q ≡ Some p))

-- Place p is earlier in the thread of one of the places.
abbrev pub IsBefore : Trace → List ℕ → ℕ → Type 0
IsBefore s places p = (q : ℕ) × Contains places q × EarlierInThread s p q

-- Place p is earlier in the thread of this place, if there is one.
abbrev pub IsBeforeSome : Trace → Option ℕ → ℕ → Type 0
IsBeforeSome s place p = (q : ℕ) × (place ≡ Some q) × EarlierInThread s p q

-- The fork of the place's thread is derived.
abbrev pub HasFork : Trace → DerivationSearch → ℕ → Type 0
HasFork s x q = (t p : ℕ) → OfThread s q t → Does s p (Fork t) → IsDerived s x p

-- Place a is the last of the followed places at which a section on lock l begins: of each earlier
-- one, the release has the property.
abbrev pub IsLast : Trace → List ℕ → (ℕ → Type 0) → ℕ → ℕ → Type 0
IsLast s followed H l a = Contains followed a × BeginsOn s a l
    × ((b : ℕ) → Contains followed b → BeginsOn s b l → (b ≤ a)
    × (b < a → (r : ℕ) → release s b ≡ Some r → H r))

-- The table of locks has the last of the followed places for each lock.
abbrev pub HasLastPlaces : Trace → List ℕ → DerivationSearch → Type 0
HasLastPlaces s followed x = (l : ℕ) → MatchOption (prefix_at x.locks l)
    ((b : ℕ) → Contains followed b → BeginsOn s b l → ⊥)
    (λ r. IsLast s followed (IsDerived s x) l r.last)

-- The followed places are derived, and so are the places that they require.
pub record HasFollowed (s : Trace) (followed : List ℕ) (x : DerivationSearch) : Type 0 where
  pub derived : (q : ℕ) → Contains followed q → IsDerived s x q
  pub required : (q p : ℕ) → Contains followed q → IsDirectlyRequired s q p → IsDerived s x p
  pub sections : HasLastPlaces s followed x

-- The new search has followed these places.
abbrev pub AddsFollowed : Trace → List ℕ → DerivationSearch → List ℕ → DerivationSearch → Type 0
AddsFollowed s places old followed new = IsSearch s places new × Extends s old new
    × HasFollowed s followed new

-- The place is in a range of the search from index n on.
abbrev pub IsLater : Trace → DerivationSearch → ℕ → ℕ → Type 0
IsLater s x n p = (i : ℕ) × (r : Range) × (n ≤ i) × (slice_get x.ranges.items i ≡ Some r)
    × InRange s r p

-- The list has the followed places, and those of the range that are in no range which the new
-- search has added.
abbrev pub HasAlso : Trace → List ℕ → Range → DerivationSearch → DerivationSearch → List ℕ → Type 0
HasAlso s followed range old new all = ((q : ℕ) → Contains followed q → Contains all q)
    × ((q : ℕ) → InRange s range q →
    Contains all q ⊎ IsLater s new (length old.ranges.items) q)

-- The new search has added the places of the range up to place n as a range.
abbrev pub Postpones : Trace → List ℕ → DerivationSearch → Range → ℕ → DerivationSearch → Type 0
Postpones s places old range n new = IsSearch s places new × Extends s old new
    × ((q : ℕ) → IsUpTo s q (Some n) → ((a : ℕ) → range.after ≡ Some a → a < q) →
    IsLater s new (length old.ranges.items) q)

-- The place of this member is derived.
abbrev pub IsCaughtAt : Trace → DerivationSearch → List ℕ → ℕ → Type 0
IsCaughtAt s x places i = (p : ℕ) × (slice_get places i ≡ Some p) × IsDerived s x p

-- The place of this member of a search is derived.
abbrev pub IsCaughtIn : Trace → List ℕ → DerivationSearch → ℕ → Type 0
IsCaughtIn s places x i = IsSearch s places x × IsCaughtAt s x places i

-- The place of no member is derived.
abbrev pub IsCaughtNowhere : Trace → DerivationSearch → List ℕ → Type 0
IsCaughtNowhere s x places = (p : ℕ) → Contains places p → IsDerived s x p → ⊥
