-- The remaining work decreases when an edge is followed, and when a lock is entered or left.
use Rattle.std.proofs.Common.{◌≡◌, ◌≢◌, ℕ, zero, suc, ◌+◌, ◌<◌, List, [], ◌∷◌, ◌++◌, length, slice_get, slice_set, get_or, Some, nat_eq, if◌then◌else◌, ap, arith}
use Rattle.std.proofs.lemmas.Option.{none-some, same_Some}
use Rattle.std.proofs.lemmas.Bool.Decides.{nat_tests}
use Rattle.cycle_search.specs.declared.tarjan.Frame.{Frame}
use Rattle.cycle_search.specs.declared.tarjan.Walk.{Walk}
use Rattle.cycle_search.specs.Walk.{left_at, left_on, left_beyond, work_left, KeepsPath, VisitsLock}

pub on-push : (graph : ℕ → List ℕ) (path : List Frame) (frame : Frame) → left_on graph (path ++ frame ∷ []) ≡ left_on graph path + left_at graph frame
unfolding left_on
on-push graph [] frame = omega arith
on-push graph (x ∷ path) frame = omega (arith, on-push graph path frame)

-- A frame changes.
on-set : (graph : ℕ → List ℕ) (path : List Frame) (i : ℕ) (frame other : Frame) → i < length path →
    left_on graph (slice_set path i frame) + left_at graph (get_or path i other) ≡ left_on graph path + left_at graph frame
unfolding left_on
on-set graph [] i frame other l = absurd (omega arith)
on-set graph (x ∷ path) zero frame other l = omega arith
on-set graph (x ∷ path) (suc i) frame other l = omega (arith, on-set graph path i frame other (omega arith))

-- One of its edges is followed.
pub on-followed : (graph : ℕ → List ℕ) (path : List Frame) (i : ℕ) (frame : Frame) → i < length path → frame ≡ get_or path i frame →
    frame.followed < length (graph frame.lock) →
    left_on graph (slice_set path i (record { lock = frame.lock; followed = frame.followed + 1 })) < left_on graph path
on-followed graph path i frame l at more =
    let next : Frame = record { lock = frame.lock; followed = frame.followed + 1 } in
    let s = on-set graph path i next frame l in
    let e = ap (left_at graph) at in
    omega (arith, s, e, more)

-- The frame is left.
pub on-left : (graph : ℕ → List ℕ) (path rest : List Frame) (frame : Frame) → path ≡ rest ++ frame ∷ [] → left_on graph rest < left_on graph path
on-left graph path rest frame e = omega (arith, ap (left_on graph) e, on-push graph rest frame)

-- The index 0 counts, and no other.
counts : (n index : ℕ) → index ≡ 0 → (if nat_eq index 0 then n else 0) ≡ n
counts n index none = grind (arith, nat_tests)

counts-not : (n index : ℕ) → index ≢ 0 → (if nat_eq index 0 then n else 0) ≡ 0
counts-not n index some = grind (arith, nat_tests)

-- A lock gets an index.
beyond-set : (graph : ℕ → List ℕ) (lock : ℕ) (indices : List ℕ) (k index : ℕ) → slice_get indices k ≡ Some 0 → index ≢ 0 →
    left_beyond graph lock (slice_set indices k index) + length (graph (lock + k)) + 2 ≡ left_beyond graph lock indices
unfolding left_beyond
beyond-set graph lock [] k index at some = absurd (none-some 0 at)
beyond-set graph lock (x ∷ xs) zero index at some =
    let n = length (graph lock) + 2 in
    let same : length (graph (lock + 0)) ≡ length (graph lock) = ap (λ l. length (graph l)) (omega arith) in
    omega (arith, counts n x (same_Some x 0 at), counts-not n index some, same)
beyond-set graph lock (x ∷ xs) (suc k) index at some =
    let same : length (graph (suc lock + k)) ≡ length (graph (lock + suc k)) = ap (λ l. length (graph l)) (omega arith) in
    omega (arith, beyond-set graph (suc lock) xs k index at some, same)

pub stays-left : (graph : ℕ → List ℕ) (old new : Walk) → KeepsPath old new → work_left graph new ≡ work_left graph old
stays-left graph old new s = omega (arith, ap (left_on graph) s.path, ap (left_beyond graph 0) s.indices)

pub enters-left : (graph : ℕ → List ℕ) (old new : Walk) (lock : ℕ) → VisitsLock old lock new → work_left graph new < work_left graph old
enters-left graph old new lock s =
    let frame : Frame = record { lock = lock; followed = 0 } in
    let same : length (graph (0 + lock)) ≡ length (graph lock) = ap (λ l. length (graph l)) (omega arith) in
    omega (
      arith,
      same,
      ap (left_on graph) s.path,
      on-push graph old.path.items frame,
      ap (left_beyond graph 0) s.indices,
      beyond-set graph 0 old.indices.items lock s.index s.unmet s.some,
    )
