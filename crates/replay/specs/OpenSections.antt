-- The critical sections that are open at a place: what a pass over the trace keeps of each lock.
use Rattle.std.specs.Prelude.{ℕ, suc, ◌-◌, ◌==◌, nat_le, List, slice_set, Option, Some, None, if◌then◌else◌}
use Rattle.trace_model.specs.declared.traces.event.Op.{Op}
use Rattle.trace_model.specs.declared.traces.event.Op.TheVariants.{Acquire, Release}
use Rattle.replay.specs.declared.sections.Open.{Open}

-- The section after one more acquire of its lock at the place. An outermost acquire begins it.
abbrev pub deeper : ℕ → Option Open → Open
deeper place None = record { acquire = place; depth = 1 }
deeper place (Some o) = record { acquire = o.acquire; depth = suc o.depth }

-- The section after one release, or `None` if the release is the outermost one.
abbrev pub shallower : Option Open → Option Open
shallower None = None
shallower (Some o) =
    if nat_le o.depth 1 then None else Some (record { acquire = o.acquire; depth = o.depth - 1 })

-- The section on the lock after an operation at the place.
abbrev pub open_after : Op → ℕ → (ℕ → Option Open) → ℕ → Option Open
open_after (Acquire l) place table key = if l == key then Some (deeper place (table l))
    else table key
open_after (Release l) place table key = if l == key then shallower (table l) else table key
open_after _ place table key = table key

-- The lock on which an acquire begins a section.
abbrev pub begun_if : ℕ → Option Open → Option ℕ
begun_if l None = Some l
begun_if l (Some o) = None

-- The lock on which the operation begins a section.
abbrev pub begun_section : (ℕ → Option Open) → Op → Option ℕ
begun_section table (Acquire l) = begun_if l (table l)
begun_section table _ = None

-- The acquire whose section a release ends.
abbrev pub ended_if : Option Open → Option ℕ
ended_if None = None
ended_if (Some o) = if nat_le o.depth 1 then Some o.acquire else None

-- The acquire whose section the operation ends.
abbrev pub ended_section : (ℕ → Option Open) → Op → Option ℕ
ended_section table (Release l) = ended_if (table l)
ended_section table _ = None

-- The releases so far, after the section of the acquire, if one is given, ends at the place.
abbrev pub with_end : List (Option ℕ) → Option ℕ → ℕ → List (Option ℕ)
with_end releases None place = releases
with_end releases (Some a) place = slice_set releases a (Some place)
