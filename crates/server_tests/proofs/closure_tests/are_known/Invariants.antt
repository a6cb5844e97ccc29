use Rattle.std.proofs.Common.{ℕ, ◌<◌, length, take}
use Rattle.std.specs.List.{Contains}
use Rattle.dependencies.specs.Tables.{table_dependencies}
use Rattle.server_tests.proofs.closure_tests.are_known.Given as goal

abbrev pub invariant-loop-number : goal.invariant-loop-number
invariant-loop-number l = (m : ℕ) → Contains (take l.number-index l.numbers) m → m < length (table_dependencies l.table)
