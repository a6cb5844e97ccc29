use Rattle.std.proofs.Common.{◌≡◌, ◌∙◌, List, ℕ, Some, false, get_or, slice_get, sym, ap, subst, true≢false}
use Rattle.std.proofs.lemmas.Option.{slice_get-get_or}
use Rattle.trace_model.specs.Theory.Dependencies.{Dependency}
use Rattle.trace_model.specs.Theory.Held.{has}
use Rattle.dependencies.specs.Tables.{table_dependencies}
use Rattle.cycle_search.specs.LockFilters.{MarksLock}
use Rattle.cycle_search.proofs.Paths.{closes-decided, has-decided, listed}
use Rattle.cycle_search.proofs.search.closes.Goals as goal

pub returns : goal.returns
returns c =
    let ds = c.args.search.now.search_input.now in
    let path = c.args.path.now.items in
    let first = c.get-first.result.now in
    let head = ap (slice_get (table_dependencies c.search_input.inside.table.now)) (ap (λ (xs : List ℕ). get_or xs 0 0) (sym c.deref.ensures.0)) ∙ c.get-first.ensures in
    let there : slice_get ds (get_or path 0 0) ≡ Some first = subst (λ z. slice_get z (get_or path 0 0) ≡ Some first) c.search_input.view_is head in
    let last = get_or ds c.args.next first in
    let at = slice_get-get_or ds c.args.next first c.requires.next in
    closes-decided ds path c.args.next first last c.requires.path.begun there at c.contains.result
    (has-decided c.contains.result last.lock first.held
    (c.contains.ensures ∙ ap (λ l. has l c.first.inside.held) (c.lock-lock.ensures last at) ∙ ap (λ (d : Dependency). has last.lock d.held) c.first.view_is))

pub returns-then-excludes : goal.returns-then-excludes
returns-then-excludes c =
    let ds = c.args.search.now.search_input.now in
    let path = c.args.path.now.items in
    let root = get_or path 0 0 in
    let begun = c.requires.path.begun in
    let (first, there) = listed ds root (c.requires.path.known 0 0 begun) in
    let (last, at) = listed ds c.args.next c.requires.next in
    closes-decided ds path c.args.next first last begun there at false (
      (λ t. absurd (true≢false (sym t))),
      (λ holds. absurd (c.excludes.ensures c.if-excludes.true
          (subst (MarksLock c.args.search.now.filter) (sym (c.lock-lock.ensures last at)) (c.requires.tables.filter first last.lock there holds)))),
    )
