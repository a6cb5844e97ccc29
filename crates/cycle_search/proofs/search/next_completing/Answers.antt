use Rattle.std.proofs.Common.{◌<◌, List, ℕ, length, get_or, slice_get, sym, ap, ◌∙◌, subst}
use Rattle.trace_model.specs.Theory.Dependencies.{Dependency}
use Rattle.dependencies.specs.Tables.{table_dependencies}
use Rattle.cycle_search.specs.CycleSearch.{CompletesAsLast}
use Rattle.cycle_search.specs.Acquirers.{Acquires, IsListed, IsLeastAbove}
use Rattle.cycle_search.proofs.Listed.{least-same, listed-takes_back}
use Rattle.cycle_search.proofs.search.next_completing.Goals as goal

pub returns : goal.returns
returns c =
    let ds = table_dependencies c.search_input.inside.table.now in let path = c.args.path.now.items in
    let held = c.get-first.result.now.held in
    let index = c.search_input.inside.components.now.acquirers in
    let acquirers = Acquires index in
    let head = ap (slice_get ds) (ap (λ (xs : List ℕ). get_or xs 0 0) (sym c.deref.ensures.0)) ∙ c.get-first.ensures in
    let locks = c.locks.ensures.value ∙ ap (λ (d : Dependency). d.held) c.first.view_is in
    let exact = λ (m : ℕ). listed-takes_back ds path c.get-first.result.now index m c.requires.begun head c.search_input.invariant.components.acquirers in
    subst (λ z. IsLeastAbove c.args.bound (CompletesAsLast z path) c.next.result) c.search_input.view_is
    (least-same (λ m. (c.args.bound < m) × IsListed acquirers held (length held) m) (λ m. (c.args.bound < m) × CompletesAsLast ds path m) _
    (λ m h. (h.0, (exact m).0 h.1)) (λ m h. (h.0, (exact m).1 h.1))
    (subst (λ xs. IsLeastAbove c.args.bound (IsListed acquirers xs (length xs)) c.next.result) locks
    (subst (λ t. IsLeastAbove c.args.bound (IsListed (Acquires t) c.locks.result.now (length c.locks.result.now)) c.next.result) c.acquirers.ensures c.next.ensures)))
