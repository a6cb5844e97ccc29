-- What a worker has seen after a call.
use Rattle.std.proofs.Common.{◌≡◌, ℕ, Bool, List, Option, Some, None, true, refl, ap, subst, ◌∙◌}
use mathlib.Core.List.{IsPrefix}
use Rattle.std.specs.Prelude.{IsSomeAnd, slice_set}
use Rattle.trace_model.specs.declared.messages.step.BoardStep.{BoardStep}
use Rattle.board.proofs.Publishing.{begins_through}
use Rattle.board.specs.declared.summary.Unsettled.{Unsettled}
use Rattle.desk.specs.Turns.{Chooses, GivesUpOn, QuestionHasTooMany, WorkerView}

-- a worker knows more after two calls of its reader
pub known_since : (inside now : WorkerView) (mid last : List BoardStep) → inside ≡ now → IsPrefix inside.known mid → IsPrefix mid last →
    IsPrefix now.known last
known_since inside now mid last is first second =
    begins_through now.known mid last (subst (λ (w : WorkerView). IsPrefix w.known mid) is first) second

-- what a worker gives up after some steps, it gives up after fewer
pub given_up_since : (limit : ℕ) (old mid new : WorkerView) (one : Unsettled) → IsPrefix old.known mid.known → mid.given_up ≡ old.given_up →
    GivesUpOn limit mid new one → GivesUpOn limit old new one
given_up_since limit old mid new one later same (task, many, (run, first, last, after), gives) = (
  task,
  many,
  (run, begins_through old.known mid.known run later first, last, after),
  gives ∙ ap (λ given. slice_set given one.number true) same,
)

-- what a worker chose after some steps, it chose after more
pub chooses_since : (given_up passed_over : List Bool) (old mid known : List BoardStep) (passed : List Bool) (found : Option Unsettled) → IsPrefix mid known →
    Chooses given_up passed_over old mid passed found → Chooses given_up passed_over old known passed found
chooses_since given_up passed_over old mid known passed found later h = record {
  shown = h.shown;
  later = h.later;
  seen = begins_through h.shown mid known h.seen later;
  least = h.least;
  wanted = h.wanted;
  round = h.round;
}

-- a task that has too many cycles after some steps has too many after more
pub too_many_since : (limit : ℕ) (mid known : List BoardStep) (question bound task : ℕ) → IsPrefix mid known → QuestionHasTooMany limit mid question bound task →
    QuestionHasTooMany limit known question bound task
too_many_since limit mid known question bound task later (run, events, before, after, many) =
    (run, events, begins_through run mid known before later, after, many)

-- the value that there is
pub some_and : {A : Type 0} (o : Option A) (P : A → Type 0) → IsSomeAnd o P → (x : A) × (o ≡ Some x) × P x
some_and None P h = absurd h
some_and (Some x) P h = (x, refl, h)

-- the question that a worker chose after some steps, it chose after more
pub chosen_by : (given_up passed_over : List Bool) (old mid known : List BoardStep) (passed : List Bool) (found : Option Unsettled) (one : Unsettled) → found ≡ Some one →
    IsPrefix mid known → Chooses given_up passed_over old mid passed found → Chooses given_up passed_over old known passed (Some one)
chosen_by given_up passed_over old mid known passed found one is later h =
    chooses_since given_up passed_over old mid known passed (Some one) later
    (subst (λ (it : Option Unsettled). Chooses given_up passed_over old mid passed it) is h)
