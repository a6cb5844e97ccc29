-- The part of a task in the report.
use Rattle.std.specs.Prelude.{ℕ, Bool, true, false, List, []}
use Rattle.trace_model.specs.Theory.Rows.{Row}
use Rattle.offline_report.specs.declared.parts.KeptRows.{KeptRows}
use Rattle.offline_report.specs.declared.parts.Known.{Known}
use Rattle.offline_report.specs.declared.parts.Known.TheVariants.{Empty, NotComputed, Kept}

-- Rows of a task, the number of bytes of their texts, the number of confirmed rows, and whether
-- these are all rows of the task.
pub record PartView : Type 0 where
  pub rows : List Row
  pub bytes : ℕ
  pub confirmed : ℕ
  pub is_whole : Bool

-- The part with the kept rows.
abbrev pub kept_part : KeptRows → PartView
kept_part kept = record {
  rows = kept.rows.items;
  bytes = kept.bytes;
  confirmed = kept.confirmed;
  is_whole = kept.is_whole;
}

-- The part of what is known of a task.
abbrev pub known_part : Known → PartView
known_part Empty = record { rows = []; bytes = 0; confirmed = 0; is_whole = true }
known_part NotComputed = record { rows = []; bytes = 0; confirmed = 0; is_whole = false }
known_part (Kept kept) = kept_part kept.value
