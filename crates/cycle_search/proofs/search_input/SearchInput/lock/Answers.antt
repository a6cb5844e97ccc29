use Rattle.std.proofs.Common.{◌≡◌, ◌∙◌, ◌<◌, ℕ, List, length, map, option_map, slice_get, sym, ap, subst}
use Rattle.std.proofs.lemmas.List.{length-map}
use Rattle.std.proofs.lemmas.Option.{same_Some, slice_get-map}
use Rattle.trace_model.specs.Theory.Dependencies.{Dependency}
use Rattle.cycle_search.specs.declared.lock_numbers.LockNumbers.{LockNumbers}
use Rattle.cycle_search.proofs.search_input.SearchInput.lock.Goals as goal

abbrev lock : Dependency → ℕ
lock d = d.lock

-- The same numbers have the locks of the same dependencies.
same_locks : (ds others : List Dependency) (numbers same : LockNumbers) → same ≡ numbers → numbers.locks.items ≡ map lock ds → ds ≡ others → same.locks.items ≡ map lock others
same_locks ds others numbers same is locked shown = ap (λ (n : LockNumbers). n.locks.items) is ∙ locked ∙ ap (map lock) shown

pub lock-requires : goal.lock-requires
lock-requires c =
    let all = same_locks _ _ _ _ c.locks.ensures c.self.invariant.components.locked c.self.view_is in
    subst (λ n. c.args.number < n) (sym (ap length all ∙ length-map c.args.self.now lock)) c.requires

pub returns : goal.returns
returns c d at =
    let all = same_locks _ _ _ _ c.locks.ensures c.self.invariant.components.locked c.self.view_is in
    let there = slice_get-map lock c.args.self.now c.args.number ∙ ap (option_map lock) at in
    same_Some c.lock.result d.lock (sym c.lock.ensures ∙ ap (λ (l : List ℕ). slice_get l c.args.number) all ∙ there)
