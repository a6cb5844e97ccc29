-- The commands that a script file says (this project's profile).
use Rattle.std.specs.Prelude.{◌≡◌, ◌⊎◌, ◌+◌, ◌<◌, ◌^◌, ℕ, List, [], ◌∷◌, ◌++◌, length, map, take, slice_get, Some, box_value, codes, decimal}
use Rattle.std.specs.List.{All, flat_map}
use Rattle.trace_model.specs.Protocol.Batches.{IsBatch}
use Rattle.trace_model.specs.Protocol.Frames.{FitsWords}
use Rattle.event_files.specs.EventFile.{event_word, line_words, pieces_at}
use Rattle.commands.specs.declared.exit.CommandError.{CommandError}
use Rattle.commands.specs.declared.exit.CommandError.TheVariants.{Line, Merged, Memory, Output}
use Rattle.commands.specs.declared.script_command.reading.Command.{Command}
use Rattle.commands.specs.declared.script_command.reading.Command.TheVariants.{Offer, Batch, Ask, Work, Deliver, Answer, Status}

-- the words that say a command: an event word, or a keyword and what follows it
abbrev pub command_words : Command → List (List ℕ)
command_words (Offer event) = event_word event ∷ []
command_words (Batch events) = codes "batch" ∷ map event_word (box_value events)
command_words (Ask bound) = codes "ask" ∷ decimal bound ∷ []
command_words (Work question) = codes "work" ∷ decimal question ∷ []
command_words (Deliver question task) = codes "deliver" ∷ decimal question ∷ decimal task ∷ []
command_words (Answer question) = codes "answer" ∷ decimal question ∷ []
command_words (Status question) = codes "status" ∷ decimal question ∷ []

-- the numbers of the command are in range, and a batch has 1 to 64 events
abbrev pub FitsCommand : Command → Type 0
FitsCommand (Offer event) = FitsWords event
FitsCommand (Batch events) = IsBatch (box_value events) × All FitsWords (box_value events)
FitsCommand (Ask bound) = bound < 2 ^ 8
FitsCommand (Work question) = question < 2 ^ 32
FitsCommand (Deliver question task) = (question < 2 ^ 32) × (task < 2 ^ 32)
FitsCommand (Answer question) = question < 2 ^ 32
FitsCommand (Status question) = question < 2 ^ 32

-- the words say the command
abbrev pub Says : List (List ℕ) → Command → Type 0
Says words command = FitsCommand command × (command_words command ≡ words)

-- the command offers an event
abbrev pub IsOffer : Command → Type 0
IsOffer (Offer event) = Unit {0}
IsOffer _ = ⊥

-- the command holds events: an offer or a batch
abbrev pub HoldsEvents : Command → Type 0
HoldsEvents (Offer event) = Unit {0}
HoldsEvents (Batch events) = Unit {0}
HoldsEvents _ = ⊥

-- if the words say a command, it holds events
abbrev pub SaysOnlyEvents : List (List ℕ) → Type 0
SaysOnlyEvents words = (command : Command) → Says words command → HoldsEvents command

-- the words of a line say these commands: offers only, or one command
pub record SaysLine (words : List (List ℕ)) (commands : List Command) : Type 0 where
  pub said : flat_map command_words commands ≡ words
  pub fit : All FitsCommand commands
  pub alone : (length commands ≡ 1) ⊎ All IsOffer commands

-- the words of a line say no commands
abbrev pub IsNotUnderstood : List (List ℕ) → Type 0
IsNotUnderstood words = (commands : List Command) → SaysLine words commands → ⊥

-- the commands, and then those that the words of a line say
abbrev pub AddsLine : List Command → List (List ℕ) → List Command → Type 0
AddsLine old words new = (line : List Command) × SaysLine words line × (new ≡ old ++ line)

-- the lines say these commands, in their order
abbrev pub SaysLines : List (List ℕ) → List Command → Type 0
SaysLines [] commands = commands ≡ []
SaysLines (line ∷ lines) commands = (first rest : List Command) × SaysLine (line_words line) first
    × SaysLines lines rest × (commands ≡ first ++ rest)

-- the file says these commands
abbrev pub IsScriptOf : List Command → List ℕ → Type 0
IsScriptOf commands file = SaysLines (pieces_at 10 file) commands

-- the line with this number, counted from 1, is the first of the lines that says no commands
pub record IsFirstBadLine (lines : List (List ℕ)) (number : ℕ) : Type 0 where
  pub index : ℕ
  pub counts : number ≡ index + 1
  pub commands : List Command
  pub before : SaysLines (take index lines) commands
  pub line : List ℕ
  pub at : slice_get lines index ≡ Some line
  pub wrong : IsNotUnderstood (line_words line)

-- the error of parsing the lines of a script is right
abbrev pub RefusesCommands : List (List ℕ) → CommandError → Type 0
RefusesCommands lines (Line number) = IsFirstBadLine lines number
RefusesCommands lines (Merged number) = ⊥
RefusesCommands lines Memory = Unit {0}
RefusesCommands lines (Output reason) = ⊥
