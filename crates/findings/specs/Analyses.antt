-- What contracts see of an analysis, and which tables it has.
use Rattle.std.specs.Prelude.{◌≡◌, ℕ, IsTrue, List, Option, Some, MatchOption}
use Rattle.std.specs.Global.{Box}
use Rattle.std.specs.Option.{ForSome}
use Rattle.trace_model.specs.Theory.Trace.{Trace}
use Rattle.trace_model.specs.Theory.Cycles.{IsCycle}
use Rattle.trace_model.specs.Theory.Dependencies.{Dependency, dependencies}
use Rattle.findings.specs.declared.first_look.FirstLook.{FirstLook}
use Rattle.findings.specs.declared.tables.Tables.{Tables}
use Rattle.cycle_search.specs.CycleSearch.{CycleFrom}
use Rattle.cycle_search.specs.Components.{AreComponents}
use Rattle.fronts.specs.declared.requirements.Requirements.{Requirements}
use Rattle.fronts.specs.Requirements.{AreRequirements}
use Rattle.sp_closure.specs.declared.scratch.ClosureScratch.{ClosureScratch}
use Rattle.sp_closure.specs.Scratches.{IsScratch}
use Rattle.sp_closure.specs.Timestamps.{AreTimestamps}

-- An analysis: its events, its bound, and the requirements over which closures are computed, or
-- `None` if there is no cycle up to the bound.
pub record AnalysisView : Type 0 where
  pub events : Trace
  pub bound : ℕ
  pub requirements : Option Requirements

-- The analysis is one of the trace, for cycles up to the bound.
abbrev pub IsAnalysisOf : Trace → ℕ → AnalysisView → Type 0
IsAnalysisOf s bound analysis = (analysis.events ≡ s) × (analysis.bound ≡ bound)

-- The trace has no cycle up to the bound.
abbrev pub HasNoCycle : Trace → ℕ → Type 0
HasNoCycle s bound = (numbers : List ℕ) → IsCycle (dependencies s) bound numbers → ⊥

-- No cycle up to the bound begins with the dependency with this number.
abbrev pub HasNoCycleFrom : List Dependency → ℕ → ℕ → Type 0
HasNoCycleFrom ds bound root = (numbers : List ℕ) → CycleFrom ds bound root numbers → ⊥

-- The components are those of the trace's dependencies. If `has_no_cycle` is `true`, the trace has
-- no cycle up to the bound.
pub record IsFirstLook (s : Trace) (bound : ℕ) (look : FirstLook) : Type 0 where
  pub components : AreComponents (dependencies s) look.components
  pub no_cycle : IsTrue look.has_no_cycle → HasNoCycle s bound

-- The requirements are those of the trace; if there are none, the trace has no cycle up to the
-- bound.
abbrev pub AreTraceRequirements : Trace → ℕ → Option Requirements → Type 0
AreTraceRequirements s bound requirements =
    MatchOption requirements (HasNoCycle s bound) (λ d. AreRequirements s d)

-- The tables are those of the trace, for cycles up to the bound.
pub record AreAnalysisTables (s : Trace) (bound : ℕ) (tables : Tables) : Type 0 where
  pub components : AreComponents (dependencies s) tables.components
  pub requirements : AreTraceRequirements s bound tables.requirements
  pub timestamps : ForSome tables.timestamps (AreTimestamps s)

-- The scratch is one over the trace with these requirements.
abbrev pub IsScratchOf : Trace → Option Requirements → Box ClosureScratch → Type 0
IsScratchOf s requirements scratch =
    (d : Requirements) → requirements ≡ Some d → IsScratch s d scratch.value
