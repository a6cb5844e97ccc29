-- A propagation in its context: a trace, its requirements, and the overlay under the growing one.
use Rattle.std.specs.Prelude.{◌≡◌, ℕ, ◌+◌, ◌<◌, ⊤, Bool, IsTrue, [], List, Option, Some, Result, IfOk}
use Rattle.trace_model.specs.Theory.Trace.{Trace}
use Rattle.trace_model.specs.Theory.Closure.{Places, IsClosed}
use Rattle.fronts.specs.declared.requirements.Section.{Section}
use Rattle.fronts.specs.declared.requirements.Item.{Item}
use Rattle.fronts.specs.declared.propagation.Context.{Context}
use Rattle.fronts.specs.declared.propagation.Propagation.{Propagation}
use Rattle.fronts.specs.declared.members.Member.{Member}
use Rattle.fronts.specs.Slots.{slots_of, in_front, HoldsPlaces, HoldsFronts}
use Rattle.fronts.specs.Overlays.{front_of, done_of, last_of}
use Rattle.fronts.specs.Requirements.{AreRequirements, item_at}
use Rattle.fronts.specs.Propagation.{PropagationState, IsFit, IsConsistent, IsBound, AreAtFront, AreSame, propagation_state, sum_to}

-- The trace.
abbrev pub context_events : Context → Trace
context_events g = g.index.now.events

-- The number of thread slots.
abbrev pub thread_count : Context → ℕ
thread_count g = g.requirements.now.threads.count

-- The thread slot of each place.
abbrev pub slots : Context → ℕ → Option ℕ
slots g = slots_of g.requirements.now.threads

-- The requirements of each slot.
abbrev pub items : Context → ℕ → ℕ → Option Item
items g = item_at g.requirements.now

-- The front of each slot.
abbrev pub fronts : Context → Propagation → ℕ → ℕ
fronts g w = front_of g.under.now w.overlay

-- The state of the propagation.
abbrev pub state : Context → Propagation → PropagationState
state g w = propagation_state g.under.now w

-- The last section of each lock.
abbrev pub last : Context → Propagation → ℕ → Option Section
last g w = last_of g.under.now w.overlay

-- The number of processed requirements of each slot.
abbrev pub processed_count : Context → Propagation → ℕ → ℕ
processed_count g w = done_of g.under.now w.overlay

-- The number of included places.
abbrev pub total : Context → Propagation → ℕ
total g w = sum_to (fronts g w) (thread_count g)

-- The set of included places.
abbrev pub inside : Context → Propagation → Places
inside g w = in_front (context_events g) (slots g) (fronts g w)

-- The requirements are those of the trace, the propagation is fit, and each member is at the front
-- of its thread.
pub record IsReadyContext (g : Context) (w : Propagation) (members : List Member) : Type 0 where
  pub sound : AreRequirements (context_events g) g.requirements.now
  pub fits : IsFit (context_events g) g.requirements.now g.under.now w
  pub behind : AreAtFront (context_events g) (slots g) (fronts g w) members

-- The worklist is empty and the state is consistent: all requirements of included places are met.
pub record IsFixpoint (g : Context) (w : Propagation) : Type 0 where
  pub sound : AreRequirements (context_events g) g.requirements.now
  pub fits : IsFit (context_events g) g.requirements.now g.under.now w
  pub consistent : IsConsistent (items g) (state g w)
  pub nothing : w.pending.items ≡ []

-- Each closed set with the property contains all included places.
abbrev pub IsInEach : Context → Propagation → (Places → Type 0) → Type 0
IsInEach g w Has = (set : Places) → IsClosed (context_events g) set → Has set →
    HoldsFronts (context_events g) (slots g) (fronts g w) set

-- The number of counted steps is the number of newly included places.
abbrev pub CountsSteps : Context → ℕ → Propagation → ℕ → Propagation → Type 0
CountsSteps g before old after new = after + total g old ≡ before + total g new

-- The fact holds if the result is `Ok(true)`.
abbrev pub IfGoes : {E : Type 0} → Result Bool E → Type 0 → Type 0
IfGoes result Fact = IfOk result (λ goes. IsTrue goes → Fact)

-- For each set with the old and the needed property, the result is `true`, and the set has the new
-- property.
abbrev pub GoesOn : (Places → Type 0) → (Places → Type 0) → (Places → Type 0) → Bool → Type 0
GoesOn Needed Old New goes = (set : Places) → Old set → Needed set → IsTrue goes × New set

-- A propagation with its members, and the number of counted steps.
pub record Stage : Type 0 where
  pub propagation : Propagation
  pub members : List Member
  pub steps : ℕ

-- A stage from its parts.
abbrev pub stage : Propagation → List Member → ℕ → Stage
stage w members n = record { propagation = w; members = members; steps = n }

-- From the old stage to the new one the propagation stays sound. If a set bounds the old stage and
-- has the needed property, the propagation continues, and the set bounds the new stage.
pub record Carries {E : Type 0} (g : Context) (Needed : Places → Type 0) (old new : Stage)
    (result : Result Bool E) : Type 0 where
  pub fits : IsFit (context_events g) g.requirements.now g.under.now new.propagation
  pub steps : CountsSteps g old.steps old.propagation new.steps new.propagation
  pub same : AreSame old.members new.members
  pub behind : IfGoes result
      (AreAtFront (context_events g) (slots g) (fronts g new.propagation) new.members)
  pub bound : IfOk result
      (GoesOn Needed (IsBound (context_events g) (slots g) (fronts g old.propagation) old.members)
      (IsBound (context_events g) (slots g) (fronts g new.propagation) new.members))

-- The set contains the end of the earlier one of the section and the lock's last section.
pub record HoldsEnd (g : Context) (w : Propagation) (l : ℕ) (c : Section)
    (set : Places) : Type 0 where
  pub of_last : (d : Section) → last g w l ≡ Some d → d.place < c.place →
      HoldsPlaces (context_events g)
      (slots g) d.end set
  pub of_new : (d : Section) → last g w l ≡ Some d → c.place < d.place →
      HoldsPlaces (context_events g)
      (slots g) c.end set

-- The property of all sets.
abbrev pub Any : Places → Type 0
Any set = ⊤
