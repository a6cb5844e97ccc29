-- Why moving one pointer at a time finds the least reached instance.
use Rattle.std.proofs.Common.{◌≡◌, ℕ, ◌<◌, ◌≤◌, List, length, get_or, slice_get, Some, subst, arith}
use Rattle.std.proofs.lemmas.Option.{slice_get_within, slice_get-get_or}
use Rattle.std.specs.List.{Contains}
use Rattle.trace_model.specs.Theory.Trace.{Trace, OfThread}
use Rattle.trace_model.specs.Theory.Reordering.{AreReached}
use Rattle.trace_model.specs.Theory.Closure.{InClosure}
use Rattle.trace_model.specs.Theory.Rows.{NoLater}
use Rattle.trace_model.specs.Theory.Laws.{OfSameThreads}
use Rattle.trace_model.proofs.Theory.Ascending.{place_of, contains_at}
use Rattle.trace_model.proofs.Theory.Existence.{closure_in_every}
use Rattle.trace_model.proofs.Theory.Least.{at_thread}

-- if places move later in their threads, the closure only grows
pub closure_grows : (s : Trace) (xs ys : List ℕ) → length xs ≡ length ys → OfSameThreads s xs ys → NoLater xs ys →
    (q : ℕ) → InClosure s xs q → InClosure s ys q
closure_grows s xs ys len same later q h set c d =
    h set c (λ p u k e.
    let (i, at) = place_of xs p k in
    let inside : i < length ys = omega (arith, slice_get_within xs i p at, len) in
    let y = get_or ys i 0 in
    let at_y : slice_get ys i ≡ Some y = slice_get-get_or ys i 0 inside in
    let (t, a, b) = same i p y at at_y in
    let (v, f, g, l) = e in
    let thread : v ≡ t = at_thread s p v t g a in
    d y u (contains_at ys y i at_y) (t, subst (OfThread s u) thread f, b, omega (arith, l, later i p y at at_y)))

-- a pointer whose place is caught is not that of any reached instance that is no earlier
pub caught_is_early : (s : Trace) (xs ys : List ℕ) → length xs ≡ length ys → OfSameThreads s xs ys → NoLater xs ys →
    AreReached s ys → (k x y : ℕ) → slice_get xs k ≡ Some x → slice_get ys k ≡ Some y → InClosure s xs x → x < y
caught_is_early s xs ys len same later (order, o, r) k x y hx hy h =
    let le : x ≤ y = later k x y hx hy in
    let other : x ≡ y → ⊥ = λ e.
    (r y (contains_at ys y k hy)).0 (subst (Contains order) e (closure_in_every s ys x (closure_grows s xs ys len same later x h) order o r)) in
    omega (arith, le, other)
