-- Numbers are a cycle exactly if each member fits.
use Rattle.std.proofs.Common.{ℕ, ◌<◌, ◌≤◌, List, length}
use Rattle.std.proofs.lemmas.Option.{slice_get_within}
use Rattle.trace_model.specs.declared.limits.TheConstants.{MAX_MEMBERS}
use Rattle.trace_model.specs.Theory.Dependencies.{Dependency}
use Rattle.trace_model.specs.Theory.Cycles.{IsCycle, Member}
use Rattle.trace_model.proofs.Theory.Ascending.{contains_at, place_of}
use Rattle.commands.specs.ExplainedRows.{FitsAt, HoldsAtEach, IsDependencyNumber}

-- A member is in the list.
member_within : (ds : List Dependency) (numbers : List ℕ) (i : ℕ) (d : Dependency) → Member ds numbers i d → i < length numbers
member_within ds numbers i d (m, at, is) = slice_get_within numbers i m at

pub cycle_of_fits : (ds : List Dependency) (numbers : List ℕ) → 2 ≤ length numbers → length numbers ≤ MAX_MEMBERS → HoldsAtEach numbers (IsDependencyNumber ds) →
    ((i : ℕ) → i < length numbers → FitsAt ds numbers i) → IsCycle ds MAX_MEMBERS numbers
cycle_of_fits ds numbers some few known fits = record {
  at_least_two = some;
  at_most = few;
  known = λ m has. let (i, at) = place_of numbers m has in known i m at;
  least_first = λ first m start has. let (i, at) = place_of numbers m has in (fits i (slice_get_within numbers i m at)).least first m start at;
  threads_distinct = λ i j a b below at here. ((fits j (member_within ds numbers j b here)).apart i a b below at here).threads;
  locks_distinct = λ i j a b below at here. ((fits j (member_within ds numbers j b here)).apart i a b below at here).locks;
  held_disjoint = λ i j l a b below at here first second. ((fits j (member_within ds numbers j b here)).apart i a b below at here).held l first second;
  linked = λ i a b at after. (fits i (member_within ds numbers i a at)).linked a b at after;
}

pub fits_of_cycle : (ds : List Dependency) (numbers : List ℕ) → IsCycle ds MAX_MEMBERS numbers → (i : ℕ) → FitsAt ds numbers i
fits_of_cycle ds numbers is i = record {
  least = λ first m start at. is.least_first first m start (contains_at numbers m i at);
  linked = λ a b at after. is.linked i a b at after;
  apart = λ j a b below at here. record {
    threads = is.threads_distinct j i a b below at here;
    locks = is.locks_distinct j i a b below at here;
    held = λ l first second. is.held_disjoint j i l a b below at here first second;
  };
}
