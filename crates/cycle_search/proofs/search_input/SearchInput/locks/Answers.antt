use Rattle.std.proofs.Common.{◌∙◌, map, ap}
use Rattle.trace_model.specs.Theory.Dependencies.{Dependency}
use Rattle.cycle_search.specs.declared.lock_numbers.LockNumbers.{LockNumbers}
use Rattle.cycle_search.proofs.search_input.SearchInput.locks.Goals as goal

pub returns : goal.returns
returns c =
    c.locks-2.ensures ∙ ap (λ (n : LockNumbers). n.locks.items) c.locks.ensures ∙ c.self.invariant.components.locked
    ∙ ap (map (λ (d : Dependency). d.lock)) c.self.view_is
