-- The text of refutations (this project's profile).
use Rattle.std.specs.Prelude.{◌≡◌, ℕ, ◌<◌, ◌-◌, List, ◌++◌, length, codes, decimal, slice_get, slice_index}
use Rattle.std.specs.List.{All, flat_map}
use Rattle.std.specs.Option.{option_map_or}
use Rattle.trace_model.specs.declared.refutations.Reason.{Reason}
use Rattle.trace_model.specs.declared.refutations.Reason.TheVariants.{BeforeMember, ThreadOrder, ForkJoin, ReadsFrom, Sections}
use Rattle.trace_model.specs.declared.refutations.Derived.{Derived}
use Rattle.trace_model.specs.declared.refutations.RefutationStep.{RefutationStep}
use Rattle.trace_model.specs.Theory.Trace.{Trace}
use Rattle.trace_model.specs.Theory.Refutation.{IsRefutation}

-- A label and a number.
abbrev pub label_and_number : List ℕ → ℕ → List ℕ
label_and_number label number = label ++ decimal number

-- The sentence that derives place p by the reason.
abbrev pub reason_line : Reason → ℕ → List ℕ
reason_line (BeforeMember q) p =
    label_and_number (codes "  before place ") q
    ++ label_and_number (codes " its thread runs place ") p
reason_line (ThreadOrder q) p = label_and_number (codes "  place ") q ++
    label_and_number (codes " needs place ") p ++ codes ": earlier in its thread"
reason_line (ForkJoin q) p = label_and_number (codes "  place ") q ++
    label_and_number (codes " needs place ") p ++ codes ": fork or join"
reason_line (ReadsFrom q) p = label_and_number (codes "  place ") q ++
    label_and_number (codes " reads what place ") p ++ codes " wrote"
reason_line (Sections a b) p =
    label_and_number (codes "  places ") a ++ label_and_number (codes " and ") b ++
    label_and_number (codes " acquire one lock: place ") p ++ codes " releases it between them"

-- The line of an entry, without its end.
abbrev pub entry_line : Derived → List ℕ
entry_line d = reason_line d.reason d.place

-- The line of an entry.
abbrev pub entry_text : Derived → List ℕ
entry_text d = entry_line d ++ codes "\n"

-- The conclusion of a step, without the end of its line: the thread of the member cannot stop
-- before the place, which is derived.
abbrev pub conclusion_line : ℕ → ℕ → List ℕ
conclusion_line thread place = label_and_number (codes "  so place ") place ++
    label_and_number (codes " must run: thread ") thread ++ codes " cannot stop before it"

-- The line of a conclusion.
abbrev pub conclusion_text : ℕ → ℕ → List ℕ
conclusion_text thread place = conclusion_line thread place ++ codes "\n"

-- The place of the last entry, or 0 if there is none.
abbrev pub last_derived_place : List Derived → ℕ
last_derived_place entries = option_map_or (λ d. d.place) (slice_get entries (length entries - 1)) 0

-- The lines of a step of a refutation of a cycle whose members have these threads.
abbrev pub step_text : List ℕ → RefutationStep → List ℕ
step_text threads step = flat_map entry_text step.derivation ++
    conclusion_text (slice_index threads step.member) (last_derived_place step.derivation)

-- The text of a refutation of a cycle whose members have these threads.
abbrev pub refutation_text : List ℕ → List RefutationStep → List ℕ
refutation_text threads steps = flat_map (step_text threads) steps

-- The step is that of one of the threads, and derives some place.
abbrev pub IsWritable : List ℕ → RefutationStep → Type 0
IsWritable threads step = (step.member < length threads) × (0 < length step.derivation)

-- Each step of a refutation of a cycle can be written, if there is a thread for each member.
abbrev pub RefutationsAreWritable : Type 0
RefutationsAreWritable = (s : Trace) (numbers threads : List ℕ) (steps : List RefutationStep) →
    length threads ≡ length numbers → IsRefutation s numbers steps →
    All (IsWritable threads) steps
