-- The rules of the history and of the board, and what their steps report (this project's profile).
use Rattle.std.specs.Prelude.{ℕ, ◌≡◌, ◌==◌, ◌<◌, cond, nat_lt, true, List, [], ◌∷◌, ◌++◌, length, MatchBool}
use mathlib.Core.List.{IsPrefix}
use mathlib.Core.Option.{some}
use lib.ListN.{get_elem?}
use Rattle.logbook.specs.Pages.{Cell, View, Book, Named}
use Rattle.logbook.specs.Pages as pages
use Rattle.trace_model.specs.declared.messages.step.BoardStep.{BoardStep}
use Rattle.trace_model.specs.Protocol.Runs.{IsLegal}

-- The history is a legal run. Its first word is its length; its second word stays 0.
pub record IsHistory (cells : List Cell) (log : List BoardStep) : Type 0 where
  pub words : cells ≡ (length log, true) ∷ (0, true) ∷ []
  pub legal : IsLegal log

-- the word with the length of the history
abbrev pub length_word : Book → Named
length_word b = record { tracked = true; key = 0; book = b }

-- the first list is a proper prefix of the second
abbrev pub IsLonger : List BoardStep → List BoardStep → Type 0
IsLonger xs ys = IsPrefix xs ys × (length xs < length ys)

-- Either the step was appended to all that was seen, or the history was longer, and all of it has
-- now been seen.
abbrev pub AddsStep : pages.Step BoardStep → View BoardStep ℕ → ℕ → View BoardStep ℕ → Type 0
AddsStep s v found w = MatchBool (found == s.old) ((w.0 ≡ v.0 ++ s.ask ∷ []) × IsLegal w.0)
    ((length w.0 ≡ found) × IsLegal w.0)

-- the rule of the board: the published list is a legal run, and each view is a prefix of it
pub record IsBoard (published : List BoardStep) (views : List (List BoardStep)) : Type 0 where
  pub legal : IsLegal published
  pub each : (seat : ℕ) (seen : List BoardStep) → get_elem? views seat ≡ some seen →
      IsPrefix seen published

-- what a reader has seen after an entry: the published list, unless it knows of more steps
abbrev pub seen_after : ℕ → List BoardStep → List BoardStep → List BoardStep
seen_after known seen published = cond (nat_lt (length published) known) seen published

-- what an entry reports, if the reader knows of that many steps
pub record ReportsEntry (known : ℕ) (seen published after : List BoardStep) : Type 0 where
  pub legal : IsLegal published
  pub later : IsPrefix seen published
  pub is : after ≡ seen_after known seen published
