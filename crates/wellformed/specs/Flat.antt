-- Traces without inner acquires. On them, the definitions without inner acquires (`Former`) agree
-- with the present ones.
use Rattle.std.specs.Prelude.{◌≡◌, ℕ, ◌↔◌, Bool, true, false, List, fold, if◌then◌else◌}
use Rattle.trace_model.specs.declared.traces.event.Event.{Event}
use Rattle.trace_model.specs.declared.traces.event.Op.{Op}
use Rattle.trace_model.specs.declared.traces.event.Op.TheVariants.{Acquire, Release}
use Rattle.trace_model.specs.Theory.Trace.{Trace, event, At, op_eq}
use Rattle.trace_model.specs.Theory.Held.{depth}
use Rattle.trace_model.specs.Theory.Dependencies.{dependencies}
use Rattle.trace_model.specs.Theory.Reordering.{IsReordering}
use Rattle.trace_model.specs.Theory.Rows.{Row, IsRow, AreRows}
use Rattle.wellformed.specs.Former.Lawful as former_lawful
use Rattle.wellformed.specs.Former.Dependencies as former_dependencies
use Rattle.wellformed.specs.Former.Reordering as former_reordering
use Rattle.wellformed.specs.Former.Rows as former_rows

-- Each acquire of the trace is outermost.
abbrev pub IsFlat : Trace → Type 0
IsFlat s = (p t l : ℕ) → At s p (event t (Acquire l)) → depth s p t l ≡ 0

-- The last event on lock l is an acquire, after event e, if it was b before.
abbrev pub taken_after : ℕ → Bool → Event → Bool
taken_after l b e =
    if op_eq e.op (Acquire l) then true
    else (if op_eq e.op (Release l) then false
    else b)

-- The last event on lock l is an acquire.
abbrev pub is_taken : Trace → ℕ → Bool
is_taken s l = fold (taken_after l) false s

-- The operation acquires a lock whose last event is an acquire.
abbrev pub acquires_taken : Trace → Op → Bool
acquires_taken s (Acquire l) = is_taken s l
acquires_taken s _ = false

-- The definitions without inner acquires agree with the present ones on the trace.
pub record AgreesWithFormer (s : Trace) : Type 0 where
  pub well_formed : former_lawful.IsFormerWellFormed s
  pub reorderings : (order : List ℕ) →
      former_reordering.IsFormerReordering s order ↔ IsReordering s order
  pub dependencies_are : former_dependencies.former_dependencies s ≡ dependencies s
  pub row : (row : Row) → former_rows.IsFormerRow s row ↔ IsRow s row
  pub rows : (bound root : ℕ) (rows : List Row) →
      former_rows.AreFormerRows s bound root rows ↔ AreRows s bound root rows
