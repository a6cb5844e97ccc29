-- The numbering of dependencies.
use Rattle.std.proofs.Common.{◌≡◌, ℕ, zero, suc, ◌<◌, inl, inr, Bool, true, false, cond, ◌==◌, ◌&&◌, List, [], ◌∷◌, ◌++◌, length, slice_get, Option, Some, None, refl, sym, ap, subst, ◌∙◌, arith}
use Rattle.std.proofs.lemmas.Bool.{eqb-true, eq-eqb, false≢true, or_cases, or_left, or_right, and_parts, and_from, cases_lt}
use Rattle.std.proofs.lemmas.Option.{none-some, same_Some, slice_get_within}
use Rattle.std.proofs.lemmas.Cmp.{nat_list_eq_equiv}
use Rattle.std.specs.Cmp.Lexicographic.{pointwise, same_text}
use Rattle.std.specs.Prelude.{nat_eq}
use Rattle.std.specs.List.{list_any}
use Rattle.std.specs.Option.{option_and_then}
use Rattle.trace_model.specs.declared.traces.event.Event.{Event}
use Rattle.trace_model.specs.declared.traces.event.Op.{Op}
use Rattle.trace_model.specs.declared.traces.event.Op.TheVariants.{Fork, Join, Acquire, Release, Read, Write}
use Rattle.trace_model.specs.Theory.Trace.{Trace, event, At}
use Rattle.trace_model.specs.Theory.Held.{depth, Begins, held_set, has}
use Rattle.trace_model.specs.Theory.Dependencies.{Dependency, dependency_of, dependency_at, same_dependency, with_new, dependencies_below}
use Rattle.trace_model.proofs.Theory.Held.{held_from}
use Rattle.trace_model.proofs.Theory.Prefix.{Agree, held-agree}
use Rattle.trace_model.proofs.Lists.{get-push, get-push_kept, get-push_last}

-- the event at a place with a dependency
pub dependency_so : (s : Trace) (p : ℕ) (d : Dependency) → dependency_at s p ≡ Some d →
    Begins s p d.thread d.lock × (d.held ≡ held_set s p d.thread) × (0 < length d.held)
dependency_so s p d h = go (slice_get s p) refl h
  where
    parts : (t l k : ℕ) (ks : List ℕ) → held_set s p t ≡ k ∷ ks → At s p (event t (Acquire l)) → (b : Bool) → has l (k ∷ ks) ≡ b →
        cond b None (Some (record { thread = t; lock = l; held = k ∷ ks })) ≡ Some d →
        Begins s p d.thread d.lock × (d.held ≡ held_set s p d.thread) × (0 < length d.held)
    parts t l k ks e a true f i = absurd (none-some d i)
    parts t l k ks e a false f i =
        let same = same_Some (record { thread = t; lock = l; held = k ∷ ks }) d i in
        let free : 0 < depth s p t l → ⊥ = λ z. false≢true (sym f ∙ subst (λ (x : List ℕ). has l x ≡ true) e (held_from s p t l z)) in
        let outer : depth s p t l ≡ 0 = elim (cases_lt 0 (depth s p t l)) [ inl z ↦ absurd (free z) | inr z ↦ omega arith ] in (
          subst (λ x. Begins s p x.thread x.lock) same (a, outer),
          subst (λ x. x.held ≡ held_set s p x.thread) same (sym e),
          subst (λ x. 0 < length x.held) same (omega arith),
        )

    by_op : (t : ℕ) (o : Op) (ks : List ℕ) → held_set s p t ≡ ks → At s p (event t o) → dependency_of t o ks ≡ Some d →
        Begins s p d.thread d.lock × (d.held ≡ held_set s p d.thread) × (0 < length d.held)
    by_op t (Acquire l) (k ∷ ks) e a i = parts t l k ks e a (has l (k ∷ ks)) refl i
    by_op t (Acquire l) [] e a i = absurd (none-some d i)
    by_op t (Fork l) ks e a i = absurd (none-some d i)
    by_op t (Join l) ks e a i = absurd (none-some d i)
    by_op t (Release l) ks e a i = absurd (none-some d i)
    by_op t (Read l) ks e a i = absurd (none-some d i)
    by_op t (Write l) ks e a i = absurd (none-some d i)

    go : (o : Option Event) → slice_get s p ≡ o → option_and_then (λ e. dependency_of e.thread e.op (held_set s p e.thread)) o ≡ Some d →
        Begins s p d.thread d.lock × (d.held ≡ held_set s p d.thread) × (0 < length d.held)
    go None e i = absurd (none-some d i)
    go (Some x) e i = by_op x.thread x.op (held_set s p x.thread) refl e i

-- equal dependencies
pub same_dependency_so : (a b : Dependency) → same_dependency a b ≡ true → a ≡ b
same_dependency_so a b h =
    let k = and_parts (a.thread == b.thread) ((a.lock == b.lock) && pointwise nat_eq a.held b.held) h in
    let l = and_parts (a.lock == b.lock) (pointwise nat_eq a.held b.held) k.1 in
    let e = eqb-true a.thread b.thread k.0 in
    let f = eqb-true a.lock b.lock l.0 in
    let g = same_text a.held b.held (sym l.1) in
    λ i. record { thread = e i; lock = f i; held = g i }

pub same_dependency_itself : (a : Dependency) → same_dependency a a ≡ true
same_dependency_itself a =
    and_from (a.thread == a.thread) ((a.lock == a.lock) && pointwise nat_eq a.held a.held) (eq-eqb a.thread a.thread refl)
    (and_from (a.lock == a.lock) (pointwise nat_eq a.held a.held) (eq-eqb a.lock a.lock refl) (nat_list_eq_equiv.refl a.held))

pub known_so : (d : Dependency) (ds : List Dependency) → list_any (same_dependency d) ds ≡ true → (m : ℕ) × (slice_get ds m ≡ Some d)
known_so d [] h = absurd (false≢true h)
known_so d (e ∷ ds) h =
    let more : list_any (same_dependency d) ds ≡ true → (m : ℕ) × (slice_get ds m ≡ Some d) = known_so d ds in
    elim (or_cases (same_dependency d e) (list_any (same_dependency d) ds) h) [
      | inl a ↦ (zero, ap Some (sym (same_dependency_so d e a)))
      | inr b ↦ (suc (more b).0, (more b).1)
    ]

pub known_from : (d : Dependency) (ds : List Dependency) (m : ℕ) → slice_get ds m ≡ Some d → list_any (same_dependency d) ds ≡ true
known_from d [] m h = absurd (none-some d h)
known_from d (e ∷ ds) zero h =
    or_left (same_dependency d e) (list_any (same_dependency d) ds) (subst (λ x. same_dependency d x ≡ true) (sym (same_Some e d h)) (same_dependency_itself d))
known_from d (e ∷ ds) (suc m) h = or_right (same_dependency d e) (list_any (same_dependency d) ds) (known_from d ds m h)

-- an invariant of the dependencies of the first n events
pub record Numbered (s : Trace) (n : ℕ) (ds : List Dependency) : Type 0 where
  pub distinct : (i j : ℕ) (d : Dependency) → slice_get ds i ≡ Some d → slice_get ds j ≡ Some d → i ≡ j
  pub complete : (p : ℕ) (d : Dependency) → p < n → dependency_at s p ≡ Some d → (m : ℕ) × (slice_get ds m ≡ Some d)
  pub appears : (i : ℕ) (d : Dependency) → slice_get ds i ≡ Some d → (p : ℕ) × (p < n) × (dependency_at s p ≡ Some d)
  pub first_appearance : (i j q : ℕ) (d e : Dependency) → i < j → slice_get ds i ≡ Some d → slice_get ds j ≡ Some e →
      dependency_at s q ≡ Some e → (p : ℕ) × (p < q) × (dependency_at s p ≡ Some d)

pub with_new_numbered : (s : Trace) (n : ℕ) (ds : List Dependency) (o : Option Dependency) → dependency_at s n ≡ o →
    Numbered s n ds → Numbered s (suc n) (with_new ds o)
with_new_numbered s n ds None e h = record {
  distinct = h.distinct;
  complete = λ p d l k. elim (cases_lt p n) [
    | inl a ↦ h.complete p d a k
    | inr a ↦ let same : p ≡ n = omega arith in
        absurd (none-some d (sym e ∙ subst (λ x. dependency_at s x ≡ Some d) same k))
  ];
  appears = λ i d k. let r = h.appears i d k in (r.0, omega (arith, r.1), r.2);
  first_appearance = h.first_appearance;
}
with_new_numbered s n ds (Some d) e h = go (list_any (same_dependency d) ds) refl
  where
    old : list_any (same_dependency d) ds ≡ true → Numbered s (suc n) ds
    old b = record {
      distinct = h.distinct;
      complete = λ p f l k. elim (cases_lt p n) [
        | inl a ↦ h.complete p f a k
        | inr a ↦ let same : p ≡ n = omega arith in
            let is : d ≡ f = same_Some d f (sym e ∙ subst (λ x. dependency_at s x ≡ Some f) same k) in
            let r = known_so d ds b in (r.0, r.1 ∙ ap Some is)
      ];
      appears = λ i f k. let r = h.appears i f k in (r.0, omega (arith, r.1), r.2);
      first_appearance = h.first_appearance;
    }

    fresh : list_any (same_dependency d) ds ≡ false → (f : Dependency) (m : ℕ) → slice_get ds m ≡ Some f → d ≡ f → ⊥
    fresh b f m k same = false≢true (sym b ∙ known_from d ds m (k ∙ ap Some (sym same)))

    new : list_any (same_dependency d) ds ≡ false → Numbered s (suc n) (ds ++ d ∷ [])
    new b = record {
      distinct = λ i j f x y.
          elim (get-push ds d i f x) [
            | inl k ↦ elim (get-push ds d j f y) [
              | inl l ↦ h.distinct i j f k l
              | inr l ↦ absurd (fresh b f i k l.1)
            ]
            | inr k ↦ elim (get-push ds d j f y) [
              | inl l ↦ absurd (fresh b f j l k.1)
              | inr l ↦ k.0 ∙ sym l.0
            ]
          ];
      complete = λ p f l k. elim (cases_lt p n) [
        | inl a ↦ let r = h.complete p f a k in (r.0, get-push_kept ds d r.0 f r.1)
        | inr a ↦ let same : p ≡ n = omega arith in
            let is : d ≡ f = same_Some d f (sym e ∙ subst (λ x. dependency_at s x ≡ Some f) same k) in
            (length ds, get-push_last ds d ∙ ap Some is)
      ];
      appears = λ i f k. elim (get-push ds d i f k) [
        | inl a ↦ let r = h.appears i f a in (r.0, omega (arith, r.1), r.2)
        | inr a ↦ (n, omega arith, e ∙ ap Some a.1)
      ];
      first_appearance = λ i j q f g l x y z.
          elim (get-push ds d j g y) [
            | inl k ↦ elim (get-push ds d i f x) [
              | inl m ↦ h.first_appearance i j q f g l m k z
              | inr m ↦ absurd (omega (arith, m.0, slice_get_within ds j g k))
            ]
            | inr k ↦ elim (get-push ds d i f x) [
              | inl m ↦
                  let r = h.appears i f m in
                  elim (cases_lt q n) [
                    | inl a ↦ let c = h.complete q g a z in absurd (fresh b g c.0 c.1 k.1)
                    | inr a ↦ (r.0, omega (arith, r.1), r.2)
                  ]
              | inr m ↦ absurd (omega (arith, m.0, k.0))
            ]
          ];
    }

    go : (b : Bool) → list_any (same_dependency d) ds ≡ b → Numbered s (suc n) (cond b ds (ds ++ d ∷ []))
    go true b = old b
    go false b = new b

pub numbered : (s : Trace) (n : ℕ) → Numbered s n (dependencies_below s n)
numbered s zero = record {
  distinct = λ i j d x y. absurd (none-some d x);
  complete = λ p d l k. absurd (omega arith);
  appears = λ i d k. absurd (none-some d k);
  first_appearance = λ i j q d e l x y z. absurd (none-some d x);
}
numbered s (suc n) = with_new_numbered s n (dependencies_below s n) (dependency_at s n) refl (numbered s n)

-- the dependencies of a prefix
pub dependency_at-agree : (s r : Trace) (p : ℕ) → Agree (suc p) s r → dependency_at s p ≡ dependency_at r p
dependency_at-agree s r p h = rw (h p (omega arith)) (go (slice_get r p))
  where
    go : (o : Option Event) → option_and_then (λ e. dependency_of e.thread e.op (held_set s p e.thread)) o
        ≡ option_and_then (λ e. dependency_of e.thread e.op (held_set r p e.thread)) o
    go None = refl
    go (Some e) = ap (dependency_of e.thread e.op) (held-agree s r p e.thread (λ q l. h q (omega arith)))

pub dependencies-agree : (s r : Trace) (n : ℕ) → Agree n s r → dependencies_below s n ≡ dependencies_below r n
dependencies-agree s r zero h = refl
dependencies-agree s r (suc n) h =
    rw (dependencies-agree s r n (λ p l. h p (omega arith)), dependency_at-agree s r n (λ p l. h p (omega arith))) refl
