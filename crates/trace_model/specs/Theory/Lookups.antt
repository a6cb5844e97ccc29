-- The writer of a read (reads-from) and the release of an acquire (match), as in Tunç et al. 2023.
use Rattle.std.specs.Prelude.{ℕ, suc, ◌-◌, length, slice_get, Option, None, ◌<◌, ◌==◌, if◌then◌else◌}
use Rattle.std.specs.Option.{option_and_then}
use Rattle.trace_model.specs.declared.traces.event.Op.{Op}
use Rattle.trace_model.specs.declared.traces.event.Op.TheVariants.{Acquire, Read, Write}
use Rattle.trace_model.specs.Theory.Trace.{Trace, does, last_place, first_place, Does}
use Rattle.trace_model.specs.Theory.Held.{depth, Ends, ends_of}

-- The last write before place q to the variable that operation o reads, or none.
abbrev pub writer_of : Trace → ℕ → Op → Option ℕ
writer_of s q (Read v) = last_place (does s (Write v)) q
writer_of s q _ = None

-- The writer of the read at place q, or none: the reads-from function of Tunç et al. 2023.
abbrev pub writer : Trace → ℕ → Option ℕ
writer s q = option_and_then (λ e. writer_of s q e.op) (slice_get s q)

-- The next outermost release of the lock by the same thread, if operation o is an outermost acquire
-- at place p.
abbrev pub release_of : Trace → ℕ → ℕ → Op → Option ℕ
release_of s p t (Acquire l) =
    if depth s p t l == 0 then first_place (ends_of s t l) (suc p) (length s - suc p) else None
release_of s p t _ = None

-- The release that ends the critical section that begins at place p, or none: the match function of
-- Tunç et al. 2023.
abbrev pub release : Trace → ℕ → Option ℕ
release s p = option_and_then (λ e. release_of s p e.thread e.op) (slice_get s p)

-- Place w is the last place before q that writes variable v.
abbrev pub GreatestWrite : Trace → ℕ → ℕ → ℕ → Type 0
GreatestWrite s v q w = (w < q) × Does s w (Write v)
    × ((u : ℕ) → w < u → u < q → Does s u (Write v) → ⊥)

-- Place r is the first place after p at which thread t ends a critical section on lock l.
abbrev pub LeastRelease : Trace → ℕ → ℕ → ℕ → ℕ → Type 0
LeastRelease s t l p r = (p < r) × Ends s r t l × ((u : ℕ) → p < u → u < r → Ends s u t l → ⊥)
