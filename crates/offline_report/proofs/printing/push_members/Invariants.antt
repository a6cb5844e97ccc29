use Rattle.std.proofs.Common.{◌≡◌, ◌++◌, take}
use Rattle.std.specs.Prelude.{flat_map, option_to_list, slice_get}
use Rattle.dependencies.specs.Tables.{table_dependencies}
use Rattle.offline_report.proofs.printing.push_members.Given as goal

-- The dependencies of the numbers so far are appended.
abbrev pub invariant-loop-number : goal.invariant-loop-number
invariant-loop-number l = l.members.items ≡ l.initial.members.items ++ flat_map (λ m. option_to_list (slice_get (table_dependencies l.table) m)) (take l.number-index l.numbers)
