-- The events of a file that are read and passed through the admission check, block by block.
use Rattle.std.specs.Prelude.{◌≡◌, ℕ, ◌++◌, List, [], Option, Some, None}
use Rattle.trace_model.specs.Theory.Trace.{Trace}
use Rattle.wellformed.specs.Tables.{FollowEvents}
use Rattle.wellformed.specs.FirstUnlawful.{IsFirstUnlawful}
use Rattle.event_files.specs.EventFile.{pieces_at, AreEventsIn, RefusesLines}
use Rattle.event_files.specs.declared.refused.FileRefused.{FileRefused}
use Rattle.commands.specs.declared.admitted_blocks.AdmittedBlock.{AdmittedBlock}
use Rattle.commands.specs.declared.admitted_blocks.AdmittedBlock.TheVariants.{Lawful, Refused}

-- The block has the events of these lines, which are lawful after the events s, or it has the first
-- that is not.
abbrev pub IsBlockAfter : List ℕ → Trace → AdmittedBlock → Type 0
IsBlockAfter text s (Lawful events admission) =
    AreEventsIn events.items (pieces_at 10 text) × FollowEvents admission (s ++ events.items)
IsBlockAfter text s (Refused first) = (events : Trace) × AreEventsIn events (pieces_at 10 text)
    × IsFirstUnlawful (s ++ events) first

-- The lines of the rest of a file, if there is one.
abbrev pub lines_after : Option (List ℕ) → List (List ℕ)
lines_after None = []
lines_after (Some rest) = pieces_at 10 rest

-- The events are those of the lines of the file before the rest.
pub record AreEventsBefore (file : List ℕ) (rest : Option (List ℕ)) (s : Trace)
    : Type 0 where
  pub lines : List (List ℕ)
  pub all : pieces_at 10 file ≡ lines ++ lines_after rest
  pub events : AreEventsIn s lines

-- The lines of the file before the rest have the events s and those of the block, which are lawful;
-- or the block has the first of their events that is not.
abbrev pub IsReadTo : List ℕ → Option (List ℕ) → Trace → AdmittedBlock → Type 0
IsReadTo file rest s (Lawful events admission) = AreEventsBefore file rest (s ++ events.items)
    × FollowEvents admission (s ++ events.items)
IsReadTo file rest s (Refused first) =
    (events : Trace) × AreEventsBefore file rest events × IsFirstUnlawful events first

-- The block `text` of the file, which the rest follows, is refused, and the lines before it are
-- understood.
pub record IsRefusedAfter (file text : List ℕ) (rest : Option (List ℕ)) (why : FileRefused)
    : Type 0 where
  pub lines : List (List ℕ)
  pub all : pieces_at 10 file ≡ lines ++ (pieces_at 10 text ++ lines_after rest)
  pub events : Trace
  pub are : AreEventsIn events lines
  pub refused : RefusesLines (pieces_at 10 text) why
