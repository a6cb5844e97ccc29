-- The results of tasks, from several threads.
use Rattle.std.specs.Prelude.{◌≡◌, ℕ, ◌<◌, List, length, slice_get, Option, Some, Result, Ok, Err, MatchResult}
use Rattle.std.specs.Global.{Vec}
use Rattle.std.specs.List.{All}
use Rattle.offline_report.specs.declared.gathering.Done.{Done}
use Rattle.offline_report.specs.declared.refused.OfflineRefused.{OfflineRefused}

module _ {Given : Type 0} (may_give : ℕ → Result Given OfflineRefused → Type 0) where
  -- Each is one of the first `n` tasks, which may have its result.
  abbrev pub AreGiven : ℕ → Vec (Done Given) → Type 0
  AreGiven n done = All (λ one. (one.task < n) × may_give one.task (Ok one.given)) done.items

  -- One of the first `n` tasks may have this error.
  abbrev pub IsRefused : ℕ → OfflineRefused → Type 0
  IsRefused n refused = (task : ℕ) × (task < n) × may_give task (Err refused)

  -- The tasks of a thread, or the error of one of them.
  abbrev pub AreTaken : ℕ → Result (Vec (Done Given)) OfflineRefused → Type 0
  AreTaken n taken = MatchResult taken (AreGiven n) (IsRefused n)

  -- Each result is at a task that may have it.
  abbrev pub HoldGiven : List (Option Given) → Type 0
  HoldGiven slots = (task : ℕ) (given : Given) → slice_get slots task ≡ Some (Some given) →
      may_give task (Ok given)

  -- Each of the first tasks may have its result.
  abbrev pub AreResults : List Given → Type 0
  AreResults all = (task : ℕ) (given : Given) → slice_get all task ≡ Some given →
      may_give task (Ok given)

  -- The results of the first `n` tasks in their order, or the error of one of them.
  abbrev pub AreGathered : ℕ → Result (Vec Given) OfflineRefused → Type 0
  AreGathered n result = MatchResult result
      (λ all. (length all.items ≡ n) × AreResults all.items) (IsRefused n)
