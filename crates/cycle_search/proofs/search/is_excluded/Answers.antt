use Rattle.std.proofs.Common.{ℕ, List, option_map, false, get_or, slice_get, sym, ap, ◌∙◌, subst, arith, true≢false}
use Rattle.std.proofs.lemmas.Option.{get_or_from_slice_get, slice_get-map}
use Rattle.trace_model.specs.Theory.Dependencies.{Dependency}
use Rattle.trace_model.proofs.Lists.{length-push}
use Rattle.cycle_search.specs.CycleSearch.{CycleThrough}
use Rattle.cycle_search.specs.LockFilters.{MarksLock}
use Rattle.cycle_search.proofs.Listing.{none-of}
use Rattle.cycle_search.proofs.Paths.{closes-decided, listed}
use Rattle.cycle_search.proofs.Turns.{full}
use Rattle.cycle_search.proofs.search.is_excluded.Goals as goal

pub returns-then-is_last : goal.returns-then-is_last
returns-then-is_last c excluded =
    let ds = c.args.search.now.search_input.now in
    let members = c.args.search.now.members in
    let path = c.args._path.now.items in
    let next = c.args.next in
    let begun = c.requires.path.begun in
    let lock : Dependency → ℕ = λ d. d.lock in
    let (first, there) = listed ds (get_or path 0 0) (c.requires.path.known 0 0 begun) in
    let (last, at) = listed ds next c.requires.next in
    let own = get_or_from_slice_get c.args.locks.now next last.lock 0 (ap (λ (xs : List ℕ). slice_get xs next) c.requires.locks ∙ slice_get-map lock ds next ∙ ap (option_map lock) at) in
    let closes = closes-decided ds path next first last begun there at false (
      (λ t. absurd (true≢false (sym t))),
      (λ holds. absurd (c.excludes.ensures excluded (subst (MarksLock c.args.search.now.filter) (sym own) (c.requires.tables.filter first last.lock there holds)))),
    ) in
    none-of (CycleThrough ds members path next)
    (full ds members path next (λ completes. true≢false (sym (closes.1 completes)))
    (omega (arith, c.requires.last c.if-is_last.true, length-push path next)))
