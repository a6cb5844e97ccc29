-- The verdict: the first test that fails, at the first place at which one does.
use Rattle.std.specs.Prelude.{◌≡◌, ℕ, ◌<◌, ◌⊎◌, List, [], ◌∷◌, length, take, slice_get, Option, Some, None}
use Rattle.trace_model.specs.Theory.Trace.{Trace}
use Rattle.replay.specs.declared.verdict.Fault.{Fault}
use Rattle.replay.specs.declared.verdict.Fault.TheVariants.{OutOfTrace, Repeated, ThreadOrder, ForkOrder, JoinOrder, WrongWriter, Overlap, LockOrder, TooFar, NotReached}
use Rattle.replay.specs.declared.verdict.Verdict.{Verdict}
use Rattle.replay.specs.declared.verdict.Verdict.TheVariants.{Reaches, Fails}
use Rattle.replay.specs.Tests.{Breaks}

-- The tests at each place of the list, in order.
abbrev pub order_tests : List Fault
order_tests = OutOfTrace ∷ Repeated ∷ ThreadOrder ∷ ForkOrder ∷ JoinOrder ∷ WrongWriter ∷ Overlap ∷
    LockOrder ∷ []

-- The tests at each place of the instance, in order.
abbrev pub instance_tests : List Fault
instance_tests = OutOfTrace ∷ TooFar ∷ NotReached ∷ []

-- The first of the tests that fails at the place, or `None`.
abbrev pub IsFirst : List Fault → Trace → List ℕ → ℕ → Option Fault → Type 0
IsFirst [] s passed q o = o ≡ None
IsFirst (f ∷ fs) s passed q o =
    (Breaks f s passed q × (o ≡ Some f)) ⊎ ((Breaks f s passed q → ⊥) × IsFirst fs s passed q o)

-- No test fails at the first `n` of the places. The places before the k-th are `passed k`.
abbrev pub Passes : List Fault → Trace → (ℕ → List ℕ) → List ℕ → ℕ → Type 0
Passes tests s passed places n =
    (k q : ℕ) → k < n → slice_get places k ≡ Some q → IsFirst tests s (passed k) q None

-- The test is the first that fails, at this place, and none failed before.
abbrev pub IsFirstFault : List Fault → Trace → (ℕ → List ℕ) → List ℕ → Fault × ℕ → Type 0
IsFirstFault tests s passed places (f, q) =
    (k : ℕ) × (slice_get places k ≡ Some q) × Passes tests s passed places k
    × IsFirst tests s (passed k) q (Some f)

-- No test fails at a place of the list.
abbrev pub OrderPasses : Trace → List ℕ → Type 0
OrderPasses s order = Passes order_tests s (λ k. take k order) order (length order)

-- The verdict on a list and an instance.
abbrev pub IsVerdict : Trace → List ℕ → List ℕ → Verdict → Type 0
IsVerdict s order instance Reaches =
    OrderPasses s order × Passes instance_tests s (λ _. order) instance (length instance)
IsVerdict s order instance (Fails f p) =
    IsFirstFault order_tests s (λ k. take k order) order (f, p)
    ⊎ (OrderPasses s order × IsFirstFault instance_tests s (λ _. order) instance (f, p))
