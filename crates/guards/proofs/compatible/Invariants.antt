use Rattle.std.proofs.Common.{take}
use Rattle.std.specs.List.{All}
use Rattle.dependencies.specs.Tables.{table_dependencies}
use Rattle.guards.specs.Compatible.{NumbersApart}
use Rattle.guards.proofs.compatible.Given as goal

abbrev pub invariant-loop-member : goal.invariant-loop-member
invariant-loop-member l = All (λ m. NumbersApart (table_dependencies l.table) m l.number) (take l.member-index l.members)
