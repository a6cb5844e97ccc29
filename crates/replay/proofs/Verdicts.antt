-- The laws of the verdict.
use Rattle.std.proofs.Common.{◌≡◌, ℕ, zero, suc, ◌+◌, ◌<◌, ◌⊎◌, inl, inr, List, [], ◌∷◌, length, take, eqb, slice_get, Option, Some, None, MatchOption, refl, sym, ap, subst, ◌∙◌, arith}
use Rattle.std.proofs.lemmas.Bool.{cases_lt, false≢true, eqb-true, eq-eqb}
use Rattle.std.proofs.lemmas.Option.{none-some, same_Some, slice_get_within}
use Rattle.std.specs.Prelude.{◌↔◌, Result, Ok, Err, IfOk}
use Rattle.std.specs.Bool.{Decides}
use Rattle.std.specs.List.{Contains}
use Rattle.std.specs.Option.{option_eq}
use Rattle.trace_model.specs.declared.traces.event.Op.TheVariants.{Fork, Join, Write}
use Rattle.trace_model.specs.Theory.Trace.{Trace, Does, OfThread}
use Rattle.trace_model.specs.Theory.Lawful.{IsWellFormed}
use Rattle.trace_model.specs.Theory.Lookups.{writer, release}
use Rattle.trace_model.specs.Theory.Reordering.{IsReordering}
use Rattle.trace_model.specs.Theory.Reordering as reordering
use Rattle.trace_model.specs.Theory.Walk.{LastIn, Follows, Walks}
use Rattle.trace_model.proofs.Theory.Ascending.{place_of, contains_at}
use Rattle.trace_model.proofs.Theory.Lawful.{fork_once, fork_first, forked, join_passed}
use Rattle.trace_model.proofs.Theory.Walk.{walk_reorders, reordering_walks}
use Rattle.replay.specs.declared.verdict.Fault.{Fault}
use Rattle.replay.specs.declared.verdict.Fault.TheVariants.{OutOfTrace, Repeated, ThreadOrder, ForkOrder, JoinOrder, WrongWriter, Overlap, LockOrder, TooFar, NotReached}
use Rattle.replay.specs.declared.verdict.Verdict.{Verdict}
use Rattle.replay.specs.declared.verdict.Verdict.TheVariants.{Reaches, Fails}
use Rattle.replay.specs.Tests.{NoForkIn, NoWriteIn, IsClosedIn, Breaks}
use Rattle.replay.specs.Laws.{InTrace, IsWitnessFor}
use Rattle.replay.specs.Verdict.{order_tests, instance_tests, IsFirst, Passes, IsFirstFault, OrderPasses, IsVerdict}
use Rattle.replay.proofs.Lists.{in_unless}

-- If no test is the first that fails, each test passes.
pub none_of : (fs : List Fault) (s : Trace) (passed : List ℕ) (q : ℕ) → IsFirst fs s passed q None →
    (k : ℕ) (f : Fault) → slice_get fs k ≡ Some f → Breaks f s passed q → ⊥
none_of [] s passed q h k f e b = none-some f e
none_of (g ∷ fs) s passed q h zero f e b =
    elim h [ inl a ↦ none-some g a.1 | inr a ↦ a.0 (subst (λ x. Breaks x s passed q) (sym (same_Some g f e)) b) ]
none_of (g ∷ fs) s passed q h (suc k) f e b =
    elim h [ inl a ↦ none-some g a.1 | inr a ↦ none_of fs s passed q a.1 k f e b ]

-- Double negation of seeing the writer.
seen_unless : (s : Trace) (passed : List ℕ) (v : ℕ) (o : Option ℕ) →
    ((MatchOption o ((u : ℕ) → Does s u (Write v) → Contains passed u → ⊥) (LastIn s passed v) → ⊥) → ⊥) →
    MatchOption o ((u : ℕ) → Does s u (Write v) → Contains passed u → ⊥) (LastIn s passed v)
seen_unless s passed v None h = λ u x y. h (λ m. m u x y)
seen_unless s passed v (Some w) h = (in_unless passed w (λ n. h (λ m. n m.0)), λ u x b. h (λ m. m.1 u x b))

pub closed_unless : (s : Trace) (passed : List ℕ) (p : ℕ) (o : Option ℕ) → release s p ≡ o → ((IsClosedIn s passed p → ⊥) → ⊥) → IsClosedIn s passed p
closed_unless s passed p None e h = absurd (h (λ (r, m, j). none-some r (sym e ∙ m)))
closed_unless s passed p (Some r) e h = (r, e, in_unless passed r (λ n. h (λ (u, m, j). n (subst (Contains passed) (same_Some u r (sym m ∙ e)) j))))

-- The place may follow those before it if and only if no test of the list fails.
pub follows_so : (s : Trace) → IsWellFormed s → (passed : List ℕ) (q : ℕ) → IsFirst order_tests s passed q None → Follows s passed q
follows_so s wf passed q h =
    let passes : (k : ℕ) (f : Fault) → slice_get order_tests k ≡ Some f → Breaks f s passed q → ⊥ = none_of order_tests s passed q h in
    record {
      in_trace = elim (cases_lt q (length s)) [ inl l ↦ l | inr l ↦ absurd (passes 0 OutOfTrace refl l) ];
      new = passes 1 Repeated refl;
      threads = λ p k. in_unless passed p (λ n. passes 2 ThreadOrder refl (p, k, n));
      forks_joins = λ p k. elim k [ inl x ↦ fork (passes 3 ForkOrder refl) p x | inr x ↦ join (passes 4 JoinOrder refl) p x ];
      writers = λ v k. seen_unless s passed v (writer s q) (λ n. passes 5 WrongWriter refl (v, k, n));
      sections = λ p l x y k. closed_unless s passed p (release s p) refl (λ n. passes 6 Overlap refl (l, y, (p, k, (x, n))));
      lock_order = λ p l x y k. elim (cases_lt p q) [
        | inl m ↦ m
        | inr m ↦ elim (cases_lt q p) [
          | inl n ↦ absurd (passes 7 LockOrder refl (l, y, (p, k, x, n)))
          | inr n ↦ let same : p ≡ q = omega arith in absurd (passes 1 Repeated refl (subst (Contains passed) same k))
        ]
      ];
    }
  where
    fork_in : (p t : ℕ) → Does s p (Fork t) → (NoForkIn s passed t → ⊥) → Contains passed p
    fork_in p t d h = in_unless passed p (λ n. h (λ g k e. n (subst (Contains passed) (fork_once s wf g p t e d) k)))

    fork : (Breaks ForkOrder s passed q → ⊥) → (p : ℕ) → (t : ℕ) × OfThread s q t × Does s p (Fork t) → Contains passed p
    fork h p (t, o, d) = fork_in p t d (λ n. h (t, o, (fork_first s wf p t d).0, n))

    join : (Breaks JoinOrder s passed q → ⊥) → (p : ℕ) → (c : ℕ) × Does s q (Join c) × (Does s p (Fork c) ⊎ OfThread s p c) → Contains passed p
    join h p (c, d, x) = elim x [
      | inl f ↦ fork_in p c f (λ n. h (c, d, inl n))
      | inr o ↦ in_unless passed p (λ n. h (c, d, inr (p, o, n)))
    ]

pub follows_from : (s : Trace) → IsWellFormed s → (passed : List ℕ) (q : ℕ) → Follows s passed q → IsFirst order_tests s passed q None
follows_from s wf passed q f =
    inr (
      λ h. omega (arith, f.in_trace, h),
      inr (
        f.new,
        inr (
          λ (p, e, n). n (f.threads p e),
          inr (
            λ (t, o, z, n). elim (forked s wf q t o) [
              | inl a ↦ z a
              | inr g ↦ n g.0 (f.forks_joins g.0 (inl (t, o, g.2))) g.2
            ],
            inr (
              λ (c, d, x). elim x [
                | inl n ↦ let g = (join_passed s wf q c d.0 d.1).1 in n g.0 (f.forks_joins g.0 (inr (c, d, inl g.2))) g.2
                | inr y ↦ y.2 (f.forks_joins y.0 (inr (c, d, inr y.1)))
              ],
              inr (
                λ (v, d, n). n (f.writers v d),
                inr (
                  λ (l, y, (p, k, (x, n))). n (f.sections p l x y k),
                  inr (λ (l, y, (p, k, x, m)). omega (arith, f.lock_order p l x y k, m), refl),
                ),
              ),
            ),
          ),
        ),
      ),
    )

-- All places of the list pass if and only if it is walked.
pub walks_so : (s : Trace) → IsWellFormed s → (order : List ℕ) → OrderPasses s order → Walks s order
walks_so s wf order h k q e = follows_so s wf (take k order) q (h k q (slice_get_within order k q e) e)

pub walks_from : (s : Trace) → IsWellFormed s → (order : List ℕ) → Walks s order → OrderPasses s order
walks_from s wf order h k q l e = follows_from s wf (take k order) q (h k q e)

-- All places of the instance pass if and only if the list reaches them.
pub reaches_so : (s : Trace) (order places : List ℕ) → Passes instance_tests s (λ _. order) places (length places) →
    reordering.Reaches s order places × InTrace s places
reaches_so s order places h = (
  λ p c. (
    at p c 1 TooFar refl,
    λ q e. in_unless order q (λ n. at p c 2 NotReached refl (q, e, n)),
  ),
  λ p c. elim (cases_lt p (length s)) [ inl l ↦ l | inr l ↦ absurd (at p c 0 OutOfTrace refl l) ],
)
  where
    at : (p : ℕ) → Contains places p → (k : ℕ) (f : Fault) → slice_get instance_tests k ≡ Some f → Breaks f s order p → ⊥
    at p c = let (k, e) = place_of places p c in none_of instance_tests s order p (h k p (slice_get_within places k p e) e)

pub reaches_from : (s : Trace) (order places : List ℕ) → reordering.Reaches s order places → InTrace s places →
    Passes instance_tests s (λ _. order) places (length places)
reaches_from s order places r i k q l e =
    let c = contains_at places q k e in
    inr (λ h. omega (arith, i q c, h), inr ((r q c).0, inr (λ (p, x, n). n ((r q c).1 p x), refl)))

pub reaches_law : (s : Trace) → IsWellFormed s → (order places : List ℕ) →
    (IsVerdict s order places Reaches → (IsReordering s order × reordering.Reaches s order places × InTrace s places))
    × ((IsReordering s order × reordering.Reaches s order places × InTrace s places) → IsVerdict s order places Reaches)
reaches_law s wf order places = (
  λ v. let r = reaches_so s order places v.1 in (walk_reorders s order (walks_so s wf order v.0), r.0, r.1),
  λ (o, r, i). (walks_from s wf order (reordering_walks s order o), reaches_from s order places r i),
)

-- There is at most one first test.
first_unique : (fs : List Fault) (s : Trace) (passed : List ℕ) (q : ℕ) (a b : Option Fault) → IsFirst fs s passed q a → IsFirst fs s passed q b → a ≡ b
first_unique [] s passed q a b x y = x ∙ sym y
first_unique (f ∷ fs) s passed q a b x y =
    let more : IsFirst fs s passed q a → IsFirst fs s passed q b → a ≡ b = first_unique fs s passed q a b in
    elim x [
      | inl m ↦ elim y [ inl n ↦ m.1 ∙ sym n.1 | inr n ↦ absurd (n.0 m.0) ]
      | inr m ↦ elim y [ inl n ↦ absurd (m.0 n.0) | inr n ↦ more m.1 n.1 ]
    ]

passes_or_stops : (fs : List Fault) (s : Trace) (passed : ℕ → List ℕ) (places : List ℕ) (n : ℕ) (f : Fault) (q k : ℕ) →
    k < n → slice_get places k ≡ Some q → Passes fs s passed places n → IsFirst fs s (passed k) q (Some f) → ⊥
passes_or_stops fs s passed places n f q k l e h x = none-some f (first_unique fs s (passed k) q None (Some f) (h k q l e) x)

stops_unique : (fs : List Fault) (s : Trace) (passed : ℕ → List ℕ) (places : List ℕ) (f g : Fault) (p q : ℕ) →
    IsFirstFault fs s passed places (f, p) → IsFirstFault fs s passed places (g, q) → (f ≡ g) × (p ≡ q)
stops_unique fs s passed places f g p q (j, a, b, c) (k, d, e, h) =
    elim (cases_lt j k) [
      | inl l ↦ absurd (passes_or_stops fs s passed places k f p j l a e c)
      | inr l ↦ elim (cases_lt k j) [
        | inl m ↦ absurd (passes_or_stops fs s passed places j g q k m d b h)
        | inr m ↦
            let same : j ≡ k = omega arith in
            let at : p ≡ q = same_Some p q (sym a ∙ subst (λ x. slice_get places x ≡ Some q) (sym same) d) in
            let h' : IsFirst fs s (passed j) p (Some g) = subst (λ x. IsFirst fs s (passed j) x (Some g)) (sym at) (subst (λ x. IsFirst fs s (passed x) q (Some g)) (sym same) h) in
            (same_Some f g (first_unique fs s (passed j) p (Some f) (Some g) c h'), at)
      ]
    ]

never_stops : (fs : List Fault) (s : Trace) (passed : ℕ → List ℕ) (places : List ℕ) (f : Fault) (q : ℕ) →
    Passes fs s passed places (length places) → IsFirstFault fs s passed places (f, q) → ⊥
never_stops fs s passed places f q h (k, e, b, c) = passes_or_stops fs s passed places (length places) f q k (slice_get_within places k q e) e h c

same_fails : (f g : Fault) (p q : ℕ) → (f ≡ g) × (p ≡ q) → Fails f p ≡ Fails g q
same_fails f g p q h = ap (λ x. Fails x p) h.0 ∙ ap (λ n. Fails g n) h.1

pub verdict_unique : (s : Trace) (order places : List ℕ) (v w : Verdict) → IsVerdict s order places v → IsVerdict s order places w → v ≡ w
verdict_unique s order places Reaches Reaches x y = refl
verdict_unique s order places Reaches (Fails g q) x y = elim y [
  | inl a ↦ absurd (never_stops order_tests s (λ k. take k order) order g q x.0 a)
  | inr a ↦ absurd (never_stops instance_tests s (λ _. order) places g q x.1 a.1)
]
verdict_unique s order places (Fails f p) Reaches x y = elim x [
  | inl a ↦ absurd (never_stops order_tests s (λ k. take k order) order f p y.0 a)
  | inr a ↦ absurd (never_stops instance_tests s (λ _. order) places f p y.1 a.1)
]
verdict_unique s order places (Fails f p) (Fails g q) x y = elim x [
  | inl a ↦ elim y [
    | inl b ↦ same_fails f g p q (stops_unique order_tests s (λ k. take k order) order f g p q a b)
    | inr b ↦ absurd (never_stops order_tests s (λ k. take k order) order f p b.0 a)
  ]
  | inr a ↦ elim y [
    | inl b ↦ absurd (never_stops order_tests s (λ k. take k order) order g q a.0 b)
    | inr b ↦ same_fails f g p q (stops_unique instance_tests s (λ _. order) places f g p q a.1 b.1)
  ]
]

last_unique : (s : Trace) (passed : List ℕ) (v w u : ℕ) → Does s w (Write v) → Does s u (Write v) → LastIn s passed v w → LastIn s passed v u → w ≡ u
last_unique s passed v w u a b x y =
    let i = place_of passed w x.0 in
    let j = place_of passed u y.0 in
    elim (cases_lt i.0 j.0) [
      | inl l ↦ absurd (x.1 u b (i.0, j.0, l, i.1, j.1))
      | inr l ↦ elim (cases_lt j.0 i.0) [
        | inl m ↦ absurd (y.1 w a (j.0, i.0, m, j.1, i.1))
        | inr m ↦ let same : i.0 ≡ j.0 = omega arith in same_Some w u (sym i.1 ∙ subst (λ k. slice_get passed k ≡ Some u) (sym same) j.1)
      ]
    ]

-- The last write is the writer if and only if the read sees it.
pub sees_decided : (s : Trace) (passed : List ℕ) (v : ℕ) (last writer : Option ℕ) →
    MatchOption last (NoWriteIn s passed v) (λ w. LastIn s passed v w × Does s w (Write v)) → ((w : ℕ) → writer ≡ Some w → Does s w (Write v)) →
    Decides (option_eq eqb last writer) (MatchOption writer (NoWriteIn s passed v) (LastIn s passed v))
sees_decided s passed v None None h d = (λ _. h, λ _. refl)
sees_decided s passed v None (Some w) h d = (λ e. absurd (false≢true e), λ l. absurd (h w (d w refl) l.0))
sees_decided s passed v (Some w) None h d = (λ e. absurd (false≢true e), λ n. absurd (n w h.1 h.0.0))
sees_decided s passed v (Some w) (Some u) h d = (λ e. subst (LastIn s passed v) (eqb-true w u e) h.0, λ l. eq-eqb w u (last_unique s passed v w u h.1 (d u refl) h.0 l))

-- One more place passes.
pub passes_more : (fs : List Fault) (s : Trace) (passed : ℕ → List ℕ) (places : List ℕ) (n q : ℕ) → Passes fs s passed places n →
    slice_get places n ≡ Some q → IsFirst fs s (passed n) q None → Passes fs s passed places (n + 1)
passes_more fs s passed places n q h e x k p l d =
    elim (cases_lt k n) [
      | inl m ↦ h k p m d
      | inr m ↦
          let same : n ≡ k = omega arith in
          let at : q ≡ p = same_Some q p (sym e ∙ subst (λ i. slice_get places i ≡ Some p) (sym same) d) in
          subst (λ i. IsFirst fs s (passed i) p None) same (subst (λ i. IsFirst fs s (passed n) i None) at x)
    ]

-- a verdict is `Reaches` exactly for a witness
pub exact_verdict : {E : Type 0} (s : Trace) → IsWellFormed s → (order places : List ℕ) (r : Result Verdict E) → IfOk r (λ v. IsVerdict s order places v) →
    IfOk r (λ v. (v ≡ Reaches) ↔ IsWitnessFor s order places)
exact_verdict s wf order places (Err e) h = h
exact_verdict s wf order places (Ok v) h =
    let law = reaches_law s wf order places in
    (λ e. law.0 (subst (λ x. IsVerdict s order places x) e h), λ w. verdict_unique s order places v Reaches h (law.1 w))
