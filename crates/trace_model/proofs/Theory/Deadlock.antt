-- A reordering that reaches an instance of a cycle leaves it deadlocked.
use Rattle.std.proofs.Common.{◌≡◌, ℕ, suc, ◌<◌, inl, inr, ◌==◌, List, [], length, take, get_or, slice_get, if◌then◌else◌, Some, sym, ap, subst, ◌∙◌, arith}
use Rattle.std.proofs.lemmas.Bool.{cases_lt, ltb-true}
use Rattle.std.proofs.lemmas.Option.{same_Some, slice_get_within, slice_get-get_or}
use Rattle.trace_model.specs.declared.traces.event.Op.TheVariants.{Acquire, Release}
use Rattle.trace_model.specs.declared.refusal.Refusal.TheVariants.{NotHeld}
use Rattle.trace_model.specs.Theory.Trace.{Trace, event, At, OfThread}
use Rattle.trace_model.specs.Theory.Held.{depth, Ends, Holds}
use Rattle.trace_model.specs.Theory.Lawful.{held_by, IsWellFormed}
use Rattle.trace_model.specs.Theory.Reordering.{IsReordering, Reaches}
use Rattle.trace_model.specs.Theory.Dependencies.{Dependency, dependency_at, dependencies}
use Rattle.trace_model.specs.Theory.Cycles.{Member, next, IsCycle, IsInstance}
use Rattle.trace_model.specs.Theory.Laws.{OfSameThreads}
use Rattle.trace_model.specs.Theory.Rows.{FirstMissing, StillHolds, LeavesDeadlocked}
use Rattle.trace_model.proofs.Theory.Held.{held_so, section_of}
use Rattle.trace_model.proofs.Theory.Lawful.{passes_not, passed}
use Rattle.trace_model.proofs.Theory.Sections.{held_by-take}
use Rattle.trace_model.proofs.Theory.Lookups.{release_of_acquire}
use Rattle.trace_model.proofs.Theory.Ascending.{place_of, contains_at, before_left, listed_from}
use Rattle.trace_model.proofs.Theory.Dependencies.{dependency_so}

-- the thread holds what it releases
pub releaser_holds : (s : Trace) → IsWellFormed s → (r u l : ℕ) → At s r (event u (Release l)) → Holds s r u l
releaser_holds s w r u l h =
    let within : r < length s = slice_get_within s r (event u (Release l)) h in
    ltb-true 0 (depth s r u l) (sym (held_by-take s r u l within) ∙ passes_not (held_by (take r s) u l) NotHeld (passed s w r u (Release l) h).2)

-- a lock that the thread holds right before its first missing place is still held after the
-- reordering
pub still_held : (s : Trace) → IsWellFormed s → (order : List ℕ) → IsReordering s order → (q u l : ℕ) → OfThread s q u →
    FirstMissing s order q → (Ends s q u l → ⊥) → Holds s q u l → StillHolds s order u l
still_held s w order o q u l at (out, before) no_end holds =
    let (a, below, begins, none) = section_of s q u l holds in (
      a,
      before a (u, (Acquire l, begins.0), at, below),
      begins,
      λ r e k.
          let is = release_of_acquire s a u l r begins e in
          elim (cases_lt r q) [
            | inl z ↦ none r is.0 z is.1
            | inr z ↦ elim (cases_lt q r) [
              | inl y ↦ out (before_left order q r (o.threads q r k (u, at, (Release l, is.1.0), y)))
              | inr y ↦ let same : r ≡ q = omega arith in no_end (subst (λ x. Ends s x u l) same is.1)
            ]
          ],
    )

pub acquire_is_no_release : (t k l : ℕ) → Some (event t (Acquire k)) ≡ Some (event t (Release l)) → ⊥
acquire_is_no_release t k l e =
    let same : Acquire k ≡ Release l = ap (λ x. x.op) (same_Some (event t (Acquire k)) (event t (Release l)) e) in cc

-- the dependency of a member, and its place
pub member_at : (s : Trace) (bound : ℕ) (numbers places : List ℕ) → IsCycle (dependencies s) bound numbers → IsInstance s numbers places →
    (k p : ℕ) → slice_get places k ≡ Some p → (d : Dependency) × Member (dependencies s) numbers k d × (dependency_at s p ≡ Some d)
member_at s bound numbers places c (same, is) k p h =
    let inside : k < length numbers = omega (arith, slice_get_within places k p h, same) in
    let m = get_or numbers k 0 in
    let e : slice_get numbers k ≡ Some m = slice_get-get_or numbers k 0 inside in
    let known : m < length (dependencies s) = c.known m (contains_at numbers m k e) in
    let blank : Dependency = record { thread = 0; lock = 0; held = [] } in
    let d = get_or (dependencies s) m blank in
    let f : slice_get (dependencies s) m ≡ Some d = slice_get-get_or (dependencies s) m blank known in
    (d, (m, e, f), is k m p d e f h)

-- a list that reaches an instance of a cycle leaves it deadlocked
pub reached_deadlocks : (s : Trace) → IsWellFormed s → (bound : ℕ) (numbers places order : List ℕ) →
    IsCycle (dependencies s) bound numbers → IsInstance s numbers places →
    IsReordering s order → Reaches s order places → LeavesDeadlocked s places order
reached_deadlocks s w bound numbers places order c is o r k p q hp hq =
    let (d, md, ed) = member_at s bound numbers places c is k p hp in
    let (f, mf, ef) = member_at s bound numbers places c is (next places k) q hq in
    let mf' : Member (dependencies s) numbers (next numbers k) f = subst (λ n. Member (dependencies s) numbers (if suc k == n then 0 else suc k) f) is.0 mf in
    let sd = dependency_so s p d ed in
    let sf = dependency_so s q f ef in
    let (i, at) = place_of f.held d.lock (c.linked k d f md mf') in
    let holds : Holds s q f.thread d.lock = held_so s q f.thread d.lock (rw (← sf.1) (listed_from f.held d.lock i at)) in
    let missing = r q (contains_at places q (next places k) hq) in (
      r p (contains_at places p k hp),
      (
        d.thread,
        d.lock,
        f.thread,
        sd.0,
        (Acquire f.lock, sf.0.0),
        still_held s w order o q f.thread d.lock (Acquire f.lock, sf.0.0) missing
            (λ e. acquire_is_no_release f.thread f.lock d.lock (sym sf.0.0 ∙ e.0)) holds,
      ),
    )

-- two instances of a cycle have their members in the same threads
pub instances_same_threads : (s : Trace) (bound : ℕ) (numbers xs ys : List ℕ) → IsCycle (dependencies s) bound numbers →
    IsInstance s numbers xs → IsInstance s numbers ys → OfSameThreads s xs ys
instances_same_threads s bound numbers xs ys c a b k x y hx hy =
    let (d, (m, e, f), dx) = member_at s bound numbers xs c a k x hx in
    let dy : dependency_at s y ≡ Some d = b.1 k m y d e f hy in
    (d.thread, (Acquire d.lock, (dependency_so s x d dx).0.0), (Acquire d.lock, (dependency_so s y d dy).0.0))
