-- The rows of a task, measured while they are computed.
use Rattle.std.specs.Prelude.{◌≡◌, ◌-◌, ◌<◌, ◌^◌, List, [], false}
use Rattle.std.proofs.Common.{refl}
use Rattle.reports.specs.Printed.{PrintedRow}
use Rattle.cycle_search.specs.Collecting.{CollectorRules}
use Rattle.offline_report.specs.Offline.{HasRows, IsPartOf}
use Rattle.offline_report.specs.declared.task_rows.EarlyEnd.{EarlyEnd}
use Rattle.offline_report.specs.declared.task_rows.EarlyEnd.TheVariants.{Over, NoMemory}
use Rattle.offline_report.specs.declared.task_rows.TaskRows.{TaskRows}

-- These are the rows so far.
abbrev pub AreRowsSoFar : List PrintedRow → TaskRows → Type 0
AreRowsSoFar rows now = HasRows rows now.rows.items now.bytes now.confirmed

-- There are no rows yet.
abbrev pub HasNoRows : TaskRows → Type 0
HasNoRows now = AreRowsSoFar [] now

-- If there were no rows, these are the rows now.
abbrev pub HasTaken : TaskRows → List PrintedRow → TaskRows → Type 0
HasTaken start rows now =
    (now.limit ≡ start.limit) × (HasNoRows start → AreRowsSoFar rows now)

-- The texts of the tasks have more bytes than the limit, and the part has these rows; or an
-- allocation fails.
abbrev pub MayEnd : TaskRows → List PrintedRow → EarlyEnd → Type 0
MayEnd start rows (Over part) =
    (start.limit < 2 ^ 64 - 1) × (part.is_whole ≡ false) × (HasNoRows start → IsPartOf rows part)
MayEnd start rows NoMemory = Unit {0}

-- It accepts each row and keeps it.
abbrev pub keeps_rows : CollectorRules TaskRows PrintedRow EarlyEnd
keeps_rows = record {
  accepts = λ now row. Unit {0};
  took = HasTaken;
  refuses = MayEnd;
  nothing = λ start. (refl, λ empty. empty);
  still = λ start now rows row took accepts. tt;
}
