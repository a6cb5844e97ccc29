use Rattle.std.proofs.Common.{ℕ, List, subst}
use Rattle.trace_model.specs.Theory.Cycles.{IsCycle}
use Rattle.trace_model.specs.Theory.Dependencies.{Dependency}
use Rattle.trace_model.specs.declared.limits.TheConstants.{MAX_MEMBERS}
use Rattle.dependencies.specs.Tables.{table_dependencies}
use Rattle.event_files.specs.ExplainedText.{stated_cycle}
use Rattle.commands.specs.ExplainedRows.{HoldsAtEach, States}
use Rattle.commands.proofs.RowTests.{when_none}
use Rattle.commands.proofs.explained_rows.row_fault.Goals as goal

pub returns-in-None : goal.returns-in-None
returns-in-None c s follows =
    let e = c.args.explained.now in
    let value = c.numbers-numbers.ensures.value in
    let stated = when_none c.other_member.result _ _ c.in_default-other_member.not-Some c.other_member.ensures in
    let placed = rw c.in-None.is at c.other_place.ensures s follows in
    let cycle = subst (λ (n : List ℕ). IsCycle (table_dependencies c.args.table.now) MAX_MEMBERS n) value (c.is_cycle.ensures.0 c.if-not-is_cycle.false) in
    record {
      stated = subst (λ (ds : List Dependency). HoldsAtEach e.cycle (States ds (stated_cycle e))) follows.0 stated;
      is_cycle = subst (λ (ds : List Dependency). IsCycle ds MAX_MEMBERS e.cycle) follows.0 cycle;
      placed = placed;
    }
