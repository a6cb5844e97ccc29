-- The entries of a search that one of its places needs.
use Rattle.std.specs.Prelude.{◌≡◌, ◌≢◌, ℕ, ◌<◌, ◌≤◌, ◌⊎◌, List, Bool, true, slice_get, Some}
use Rattle.std.specs.List.{Contains}
use Rattle.trace_model.specs.declared.refutations.Reason.{Reason}
use Rattle.trace_model.specs.declared.refutations.Reason.TheVariants.{BeforeMember, ThreadOrder, ForkJoin, ReadsFrom, Sections}
use Rattle.trace_model.specs.declared.refutations.Derived.{Derived}
use Rattle.trace_model.specs.Theory.Trace.{Trace}
use Rattle.trace_model.specs.Theory.Refutation.{derived_places, IsDerivation}
use Rattle.explain.specs.declared.search.DerivationSearch.{DerivationSearch}
use Rattle.explain.specs.DerivationSearch.{derived_by}

-- The reason names derived place q.
abbrev pub Names : Reason → ℕ → Type 0
Names (BeforeMember p) q = ⊥
Names (ThreadOrder p) q = p ≡ q
Names (ForkJoin p) q = p ≡ q
Names (ReadsFrom p) q = p ≡ q
Names (Sections a b) q = (a ≡ q) ⊎ (b ≡ q)

-- The entry with index i is marked.
abbrev pub IsNeeded : List Bool → ℕ → Type 0
IsNeeded needed i = slice_get needed i ≡ Some true

-- The marks stay.
abbrev pub KeepsMarks : List Bool → List Bool → Type 0
KeepsMarks old new = (i : ℕ) → IsNeeded old i → IsNeeded new i

-- Of each marked entry from index n on, the entries of the places that its reason names are before
-- it and marked.
abbrev pub AreClosed : DerivationSearch → List Bool → ℕ → Type 0
AreClosed x needed n = (m q : ℕ) (d : Derived) → n ≤ m → IsNeeded needed m →
    slice_get x.entries.items m ≡ Some d → Names d.reason q →
    (j : ℕ) × (j < m) × (slice_get (derived_by x) j ≡ Some q) × IsNeeded needed j

-- The entries are a derivation of the places of the marked entries below index n. None of these
-- entries is about the place that is looked for.
abbrev pub IsNeededDerivation : Trace → List ℕ → DerivationSearch → List Bool → ℕ → ℕ →
    List Derived → Type 0
IsNeededDerivation s places x needed place n made = IsDerivation s places made
    × ((j p : ℕ) → j < n → IsNeeded needed j → slice_get (derived_by x) j ≡ Some p →
    Contains (derived_places made) p × (p ≢ place))
