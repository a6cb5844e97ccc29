-- Closed sets and reorderings correspond.
use Rattle.std.proofs.Common.{◌≡◌, ℕ, ◌<◌, ◌⊎◌, inl, inr, true, List, length, slice_get, Option, Some, None, MatchOption, IsTrue, ◌↔◌, refl, sym, subst, ◌∙◌, arith}
use Rattle.std.proofs.lemmas.Bool.{cases_lt}
use Rattle.std.proofs.lemmas.Option.{same_Some, slice_get_within}
use Rattle.std.specs.List.{Contains}
use Rattle.trace_model.specs.declared.traces.event.Op.TheVariants.{Read, Write}
use Rattle.trace_model.specs.Theory.Trace.{Trace, Does}
use Rattle.trace_model.specs.Theory.Held.{BeginsOn}
use Rattle.trace_model.specs.Theory.Lawful.{IsWellFormed}
use Rattle.trace_model.specs.Theory.Lookups.{writer, release}
use Rattle.trace_model.specs.Theory.Reordering.{Before, ForkOrJoin, LastWrite, IsReordering, Reaches, AreReached}
use Rattle.trace_model.specs.Theory.Closure.{Places, IsClosed, HoldsPredecessors, InClosure, IsClosure, ascending_places}
use Rattle.trace_model.proofs.Theory.Lawful.{fork_before, join_after, fork_before_join}
use Rattle.trace_model.proofs.Theory.Sections.{released_between}
use Rattle.trace_model.proofs.Theory.Lookups.{writer_so, no_writer_so, writer_of_read}
use Rattle.trace_model.proofs.Theory.Ascending.{place_of, before_left, before_right, ascending_distinct, ascending_contains, contains_ascending, ascending_before, before_ascending, listed, listed_contains, contains_listed}

-- the fork or join that a place needs is before it
pub needed_before : (s : Trace) → IsWellFormed s → (p q : ℕ) → ForkOrJoin s p q → p < q
needed_before s w p q (inl (t, o, f)) = fork_before s w p q t f o
needed_before s w p q (inr (c, j, inl f)) = fork_before_join s w p q c f j
needed_before s w p q (inr (c, j, inr o)) = join_after s w q p c j o

-- a closed set, ascending, is a reordering
pub closed_reorders : (s : Trace) → IsWellFormed s → (set : Places) → IsClosed s set → IsReordering s (ascending_places set (length s))
closed_reorders s w set c = record {
  in_trace = λ q h. (ascending_contains set (length s) q h).0;
  distinct = ascending_distinct set (length s);
  threads = λ p q h e.
      let r = ascending_contains set (length s) q h in
      before_ascending set (length s) p q e.3 r.0 (c.threads p q r.1 e) r.1;
  forks_joins = λ p q h e.
      let r = ascending_contains set (length s) q h in
      before_ascending set (length s) p q (needed_before s w p q e) r.0 (c.forks_joins p q r.1 e) r.1;
  writers = λ q v h d. written q v h d (writer s q) refl;
  sections = λ p q l a b before.
      let below = ascending_before set (length s) p q before in
      let r = released_between s w p q l below a b in
      let x = ascending_contains set (length s) p (before_left (ascending_places set (length s)) p q before) in
      let y = ascending_contains set (length s) q (before_right (ascending_places set (length s)) p q before) in
      let z = c.sections p q r.0 l below a b x.1 y.1 r.1 in (
        r.0,
        r.1,
        before_ascending set (length s) p r.0 r.2 (omega (arith, r.3, y.0)) x.1 z,
        before_ascending set (length s) r.0 q r.3 y.0 z y.1,
      );
  lock_order = λ p q l a b before. ascending_before set (length s) p q before;
}
  where
    written : (q v : ℕ) → Contains (ascending_places set (length s)) q → Does s q (Read v) → (o : Option ℕ) → writer s q ≡ o →
        MatchOption o
        ((u : ℕ) → Does s u (Write v) → Before (ascending_places set (length s)) u q → ⊥)
        (LastWrite s (ascending_places set (length s)) v q)
    written q v h d None e = λ u x before. no_writer_so s q v d e u (ascending_before set (length s) u q before) x
    written q v h d (Some x) e =
        let r = ascending_contains set (length s) q h in
        let k = writer_of_read s q v x d e in (
          before_ascending set (length s) x q k.0 r.0 (c.writers x q r.1 e) r.1,
          λ u y a b. k.2 u (ascending_before set (length s) x u a) (ascending_before set (length s) u q b) y,
        )

-- it reaches places that are not in the set, if the set holds their predecessors
pub closed_reaches : (s : Trace) (places : List ℕ) (set : Places) → HoldsPredecessors s places set →
    ((p : ℕ) → Contains places p → set p ≡ true → ⊥) → Reaches s (ascending_places set (length s)) places
closed_reaches s places set holds none p within = (
  (λ h. none p within (ascending_contains set (length s) p h).1),
  λ q e. contains_ascending set (length s) q (slice_get_within s q _ e.1.1) (holds p q within e),
)

-- of two places of a list, one is before the other
pub either_before : (order : List ℕ) (p q : ℕ) → Contains order p → Contains order q → (p ≡ q → ⊥) →
    Before order p q ⊎ Before order q p
either_before order p q a b other =
    let x = place_of order p a in
    let y = place_of order q b in
    elim (cases_lt x.0 y.0) [
      | inl l ↦ inl (x.0, y.0, l, x.1, y.1)
      | inr l ↦ elim (cases_lt y.0 x.0) [
        | inl m ↦ inr (y.0, x.0, m, y.1, x.1)
        | inr m ↦
            let same : x.0 ≡ y.0 = omega arith in
            absurd (other (same_Some p q (sym x.1 ∙ subst (λ k. slice_get order k ≡ Some q) (sym same) y.1)))
      ]
    ]

-- the places of a reordering are a closed set
pub reordering_closes : (s : Trace) (order : List ℕ) → IsReordering s order → IsClosed s (listed order)
reordering_closes s order r = record {
  threads = λ p q h e. contains_listed order p (before_left order p q (r.threads p q (listed_contains order q h) e));
  forks_joins = λ p q h e. contains_listed order p (before_left order p q (r.forks_joins p q (listed_contains order q h) e));
  writers = λ w q h e.
      let (v, d, is) = writer_so s q w e in
      let m : LastWrite s order v q w = last w q v e (r.writers q v (listed_contains order q h) d) in
      contains_listed order w (before_left order w q m.0);
  sections = λ p q x l below a b h k e. contains_listed order x
      (between p q x l below a b e (either_before order p q (listed_contains order p h) (listed_contains order q k) (λ same. omega arith)));
}
  where
    last : (w q v : ℕ) → writer s q ≡ Some w → MatchOption (writer s q)
        ((u : ℕ) → Does s u (Write v) → Before order u q → ⊥) (LastWrite s order v q) → LastWrite s order v q w
    last w q v e m = rw e at m

    between : (p q x l : ℕ) → p < q → BeginsOn s p l → BeginsOn s q l → release s p ≡ Some x →
        Before order p q ⊎ Before order q p → Contains order x
    between p q x l below a b e (inl before) =
        let z = r.sections p q l a b before in
        let same : z.0 ≡ x = same_Some z.0 x (sym z.1 ∙ e) in
        subst (Contains order) same (before_right order p z.0 z.2)
    between p q x l below a b e (inr before) = absurd (omega (arith, r.lock_order q p l b a before))

pub reaching_holds : (s : Trace) (order places : List ℕ) → Reaches s order places → HoldsPredecessors s places (listed order)
reaching_holds s order places r p q h e = contains_listed order q ((r p h).1 q e)

-- every reordering that reaches the places contains the closure
pub closure_in_every : (s : Trace) (places : List ℕ) (q : ℕ) → InClosure s places q →
    (order : List ℕ) → IsReordering s order → Reaches s order places → Contains order q
closure_in_every s places q h order r e =
    listed_contains order q (h (listed order) (reordering_closes s order r) (reaching_holds s order places e))

-- the closure is closed and holds the predecessors
pub closure_closes : (s : Trace) (places : List ℕ) (set : Places) → IsClosure s places set → IsClosed s set
closure_closes s places set is = record {
  threads = λ p q h e. (is p).1 (λ z c d. c.threads p q ((is q).0 h z c d) e);
  forks_joins = λ p q h e. (is p).1 (λ z c d. c.forks_joins p q ((is q).0 h z c d) e);
  writers = λ w q h e. (is w).1 (λ z c d. c.writers w q ((is q).0 h z c d) e);
  sections = λ p q r l below a b h k e. (is r).1 (λ z c d. c.sections p q r l below a b ((is p).0 h z c d) ((is q).0 k z c d) e);
}

pub closure_holds : (s : Trace) (places : List ℕ) (set : Places) → IsClosure s places set → HoldsPredecessors s places set
closure_holds s places set is p q h e = (is q).1 (λ z c d. d p q h e)

-- the closure holds none of the places exactly if some reordering reaches them
pub existence : (s : Trace) → IsWellFormed s → (places : List ℕ) (set : Places) → IsClosure s places set →
    (((p : ℕ) → Contains places p → IsTrue (set p) → ⊥) ↔ AreReached s places)
existence s w places set is = (
  (λ none. (
    ascending_places set (length s),
    closed_reorders s w set (closure_closes s places set is),
    closed_reaches s places set (closure_holds s places set is) none,
  )),
  λ (order, r, e) p h k. (e p h).0 (closure_in_every s places p ((is p).0 k) order r e),
)

-- a closed set that contains the predecessors, and only places of the closure, is the closure
pub is_closure_from : (s : Trace) (places : List ℕ) (set : Places) → IsClosed s set → HoldsPredecessors s places set →
    ((q : ℕ) → IsTrue (set q) → InClosure s places q) → IsClosure s places set
is_closure_from s places set c d inside q = (inside q, λ h. h set c d)
