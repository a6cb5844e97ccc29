-- The text of a report (this project's profile).
use Rattle.std.specs.Prelude.{map}
use Rattle.std.specs.List.{flat_map}
use Rattle.trace_model.specs.Theory.Dependencies.{dependencies}
use Rattle.trace_model.specs.Protocol.Machine.{ReportPrinter, rows_of}
use Rattle.reports.specs.Printed.{with_dependencies}
use Rattle.reports.specs.Text.{report}

-- the report on the rows of a question's tasks, each with the dependencies that its numbers name
abbrev pub report_printer : ReportPrinter
report_printer s number q = report number q.length q.bound
    (map (with_dependencies (dependencies s)) (flat_map rows_of q.tasks))
