-- Laws of the verdict, each the contract of a public function.
use Rattle.std.specs.Prelude.{◌≡◌, ℕ, ◌<◌, ◌↔◌, List, length}
use Rattle.std.specs.List.{Contains}
use Rattle.trace_model.specs.Theory.Trace.{Trace}
use Rattle.trace_model.specs.Theory.Lawful.{IsWellFormed}
use Rattle.trace_model.specs.Theory.Reordering as reordering
use Rattle.trace_model.specs.Theory.Reordering.{IsReordering}
use Rattle.replay.specs.declared.verdict.Verdict.{Verdict}
use Rattle.replay.specs.declared.verdict.Verdict.TheVariants.{Reaches}
use Rattle.replay.specs.Verdict.{IsVerdict}

-- The places are in the trace.
abbrev pub InTrace : Trace → List ℕ → Type 0
InTrace s places = (p : ℕ) → Contains places p → p < length s

-- The list is a sync-preserving reordering of the trace that reaches the places, which are in the
-- trace.
abbrev pub IsWitnessFor : Trace → List ℕ → List ℕ → Type 0
IsWitnessFor s order instance = IsReordering s order × reordering.Reaches s order instance ×
    InTrace s instance

-- No test fails exactly if the list is such a witness.
abbrev pub ReachesIsReordering : Type 0
ReachesIsReordering =
    (s : Trace) → IsWellFormed s → (order instance : List ℕ) →
    IsVerdict s order instance Reaches ↔ IsWitnessFor s order instance

-- There is exactly one verdict.
abbrev pub VerdictIsUnique : Type 0
VerdictIsUnique =
    (s : Trace) (order instance : List ℕ) (v w : Verdict) → IsVerdict s order instance v →
    IsVerdict s order instance w → v ≡ w
