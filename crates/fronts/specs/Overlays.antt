-- The state of a propagation, stored as changes over another state.
use Rattle.std.specs.Prelude.{◌≡◌, ◌≢◌, ℕ, Option, Some, None, unwrap_or}
use Rattle.fronts.specs.declared.requirements.Section.{Section}
use Rattle.fronts.specs.declared.requirements.Requirements.{Requirements}
use Rattle.fronts.specs.declared.overlay.Overlay.{Overlay}
use Rattle.fronts.specs.EpochArrays.{value_at, size, IsBlankArray}

-- The number of included places of the slot's thread.
abbrev pub front_of : Overlay → Overlay → ℕ → ℕ
front_of under overlay a =
    unwrap_or (value_at overlay.fronts a) (unwrap_or (value_at under.fronts a) 0)

-- The number of its requirements that were processed.
abbrev pub done_of : Overlay → Overlay → ℕ → ℕ
done_of under overlay a = unwrap_or (value_at overlay.done a) (unwrap_or (value_at under.done a) 0)

-- The first value that is present.
abbrev pub first_some : {T : Type 0} → Option T → Option T → Option T
first_some (Some x) o = Some x
first_some None o = o

-- The lock's last section that has begun.
abbrev pub last_of : Overlay → Overlay → ℕ → Option Section
last_of under overlay l = first_some (value_at overlay.last l) (value_at under.last l)

-- The function changes at one argument.
pub record Changes {T : Type 0} (old : ℕ → T) (a : ℕ) (value : T) (new : ℕ → T) : Type 0 where
  pub here : new a ≡ value
  pub others : (b : ℕ) → b ≢ a → new b ≡ old b

-- Memory for this number of threads and locks.
pub record HasOverlayRoom (threads locks : ℕ) (overlay : Overlay) : Type 0 where
  pub fronts : size overlay.fronts ≡ threads
  pub done : size overlay.done ≡ threads
  pub last : size overlay.last ≡ locks

-- An overlay without changes.
pub record IsEmptyOverlay (threads locks : ℕ) (overlay : Overlay) : Type 0 where
  pub fronts : IsBlankArray threads overlay.fronts
  pub done : IsBlankArray threads overlay.done
  pub last : IsBlankArray locks overlay.last

-- Memory for the threads and locks of these requirements.
abbrev pub HasRequirementRoom : Requirements → Overlay → Type 0
HasRequirementRoom d overlay = HasOverlayRoom d.threads.count d.lock_count overlay

-- An overlay without changes, with memory for these requirements.
abbrev pub IsEmptyFor : Requirements → Overlay → Type 0
IsEmptyFor d overlay = IsEmptyOverlay d.threads.count d.lock_count overlay
