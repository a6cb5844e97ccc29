use Rattle.std.proofs.Common.{◌≡◌, ◌<◌, ℕ, Some, slice_get, slice_index}
use Rattle.std.specs.List.{Contains}
use Rattle.trace_model.specs.Theory.Dependencies.{Dependency}
use Rattle.dependencies.specs.Tables.{table_dependencies}
use Rattle.cycle_search.proofs.distances.are_zero_at_root.Given as goal

abbrev pub invariant-loop-number : goal.invariant-loop-number
invariant-loop-number l =
    let ds = table_dependencies l.search_input-inside.table.now in
    (m : ℕ) (a d : Dependency) → m < l.number → slice_get ds m ≡ Some a → slice_get ds l.root ≡ Some d → Contains d.held a.lock → slice_index l.distances m ≡ 0
