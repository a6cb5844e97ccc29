-- The pass over the trace keeps the open sections.
use Rattle.std.proofs.Common.{◌≡◌, ◌≢◌, ℕ, zero, suc, ◌-◌, ◌<◌, inl, inr, Bool, true, false, cond, ◌==◌, ltb, leb, List, replicate, length, take, slice_get, Option, Some, None, refl, sym, ap, subst, ◌∙◌, arith}
use Rattle.std.specs.Prelude.{IfSome}
use Rattle.std.specs.Option.{option_and_then}
use Rattle.std.proofs.lemmas.Bool.{cases_lt, cases_eq, eqb-true, eqb-false, leb-true, leb-false, lt-ltb, ltb-true, ltb-false}
use Rattle.std.proofs.lemmas.List.{length-set}
use Rattle.std.proofs.lemmas.Option.{none-some, same_Some, slice_get_within}
use Rattle.trace_model.specs.declared.traces.event.Event.{Event}
use Rattle.trace_model.specs.declared.traces.event.Op.{Op}
use Rattle.trace_model.specs.declared.traces.event.Op.TheVariants.{Fork, Join, Acquire, Release, Read, Write}
use Rattle.trace_model.specs.declared.limits.TheConstants.{MAX_DEPTH}
use Rattle.trace_model.specs.Theory.Trace.{Trace, event, At}
use Rattle.trace_model.specs.Theory.Held.{depth, Begins, BeginsOn, Ends, Holds, begun_of, begun_lock}
use Rattle.trace_model.specs.Theory.Holders.{owner, depth_by}
use Rattle.trace_model.specs.Theory.Lawful.{IsWellFormed}
use Rattle.trace_model.specs.Theory.Lookups.{release, LeastRelease}
use Rattle.trace_model.proofs.Theory.Deadlock.{releaser_holds}
use Rattle.trace_model.proofs.Theory.Depths.{depth_shallow}
use Rattle.trace_model.proofs.Theory.Growing.{well_formed_take}
use Rattle.trace_model.proofs.Theory.Held.{depth_cases, same_acquire, same_release, acquire_no_release, section_holds}
use Rattle.trace_model.proofs.Lists.{at_index, get-set_same, get-set_other}
use Rattle.trace_model.proofs.Theory.Lookups.{release_is, release_so}
use Rattle.trace_model.proofs.Theory.Owners.{depth-owner}
use Rattle.trace_model.proofs.Theory.Sections.{depth-take, others_lack, released_between}
use Rattle.replay.specs.declared.sections.Open.{Open}
use Rattle.replay.specs.OpenSections.{deeper, shallower, open_after, begun_if, begun_section, ended_if, ended_section, with_end}

-- The section that is open on the lock right before the place, or `None` if no thread holds it.
abbrev pub IsOpen : Trace → ℕ → ℕ → Option Open → Type 0
IsOpen s n l None = (t : ℕ) → depth s n t l ≡ 0
IsOpen s n l (Some o) =
    (t : ℕ) × (o.acquire < n) × Begins s o.acquire t l × ((r : ℕ) → o.acquire < r → r < n → Ends s r t l → ⊥) × (depth s n t l ≡ o.depth)

abbrev pub AreOpen : Trace → ℕ → (ℕ → Option Open) → Type 0
AreOpen s n table = (l : ℕ) → IsOpen s n l (table l)

open_holds : (s : Trace) (n l : ℕ) (o : Open) (is : IsOpen s n l (Some o)) → Holds s n is.0 l
open_holds s n l o (t, below, begins, none, deep) = section_holds s n t l (o.acquire, below, begins, none)

-- Two threads do not hold one lock.
owner_alone : (o : Option _) (t u : ℕ) → 0 < depth_by o t → 0 < depth_by o u → t ≡ u
owner_alone None t u a b = absurd (omega (arith, a))
owner_alone (Some x) t u a b = go (x.thread == t) refl (x.thread == u) refl a b
  where
    go : (f : Bool) → (x.thread == t) ≡ f → (g : Bool) → (x.thread == u) ≡ g → 0 < cond f x.depth 0 → 0 < cond g x.depth 0 → t ≡ u
    go true f true g c d = sym (eqb-true x.thread t f) ∙ eqb-true x.thread u g
    go false f g h c d = absurd (omega (arith, c))
    go true f false g c d = absurd (omega (arith, d))

one_holder : (s : Trace) → IsWellFormed s → (n t u l : ℕ) → n < length s → Holds s n t l → Holds s n u l → t ≡ u
one_holder s w n t u l below a b =
    owner_alone (owner (take n s) l) t u (subst (λ k. 0 < k) (is t) a) (subst (λ k. 0 < k) (is u) b)
  where
    is : (x : ℕ) → depth s n x l ≡ depth_by (owner (take n s) l) x
    is x = sym (depth-take s n x l below) ∙ depth-owner (take n s) (well_formed_take s n w) x l

others_zero : (s : Trace) → IsWellFormed s → (n t u l : ℕ) → n < length s → Holds s n t l → u ≢ t → depth s n u l ≡ 0
others_zero s w n t u l below holds other = elim (cases_lt 0 (depth s n u l)) [
  | inl a ↦ absurd (other (one_holder s w n u t l below a holds))
  | inr a ↦ omega arith
]

-- ---- one more place

module _ (s : Trace) (w : IsWellFormed s) (n : ℕ) (e : Event) (at : At s n e) where
  within : n < length s
  within = slice_get_within s n e at

  at_op : (o : Op) → e.op ≡ o → At s n (event e.thread o)
  at_op o f = at ∙ ap (λ x. Some (event e.thread x)) f

  same_op : (t : ℕ) (o : Op) → At s n (event t o) → (e.thread ≡ t) × (e.op ≡ o)
  same_op t o h = let same = same_Some e (event t o) (sym at ∙ h) in (ap (λ x. x.thread) same, ap (λ x. x.op) same)

  -- An event that neither acquires nor releases the lock.
  unmoved : (l t : ℕ) → (e.op ≡ Acquire l → ⊥) → (e.op ≡ Release l → ⊥) → depth s (suc n) t l ≡ depth s n t l
  unmoved l t a r = elim (depth_cases (slice_get s n) t l (depth s n t l)) [
    | inl x ↦ absurd (a (same_op t (Acquire l) x.0).1)
    | inr y ↦ elim y [
      | inl x ↦ absurd (r (same_op t (Release l) x.0).1)
      | inr x ↦ x.2
    ]
  ]

  acquired : (l t : ℕ) → At s n (event t (Acquire l)) → depth s (suc n) t l ≡ suc (depth s n t l)
  acquired l t h = elim (depth_cases (slice_get s n) t l (depth s n t l)) [
    | inl x ↦ x.1
    | inr y ↦ elim y [
      | inl x ↦ absurd (acquire_no_release (slice_get s n) t l h x.0)
      | inr x ↦ absurd (x.0 h)
    ]
  ]

  released : (l t : ℕ) → At s n (event t (Release l)) → depth s (suc n) t l ≡ depth s n t l - 1
  released l t h = elim (depth_cases (slice_get s n) t l (depth s n t l)) [
    | inl x ↦ absurd (acquire_no_release (slice_get s n) t l x.0 h)
    | inr y ↦ elim y [
      | inl x ↦ x.1
      | inr x ↦ absurd (x.1 h)
    ]
  ]

  -- The section stays open if the thread does not end it here.
  stays : (l : ℕ) (o : Open) (d : ℕ) (is : IsOpen s n l (Some o)) → (Ends s n is.0 l → ⊥) → depth s (suc n) is.0 l ≡ d →
      IsOpen s (suc n) l (Some (record { acquire = o.acquire; depth = d }))
  stays l o d (t, below, begins, none, deep) open_yet f = (
    t,
    omega arith,
    begins,
    (λ r a b ends. elim (cases_lt r n) [
      | inl c ↦ none r a c ends
      | inr c ↦ let same : r ≡ n = omega arith in open_yet (subst (λ x. Ends s x t l) same ends)
    ]),
    f,
  )

  kept : (l : ℕ) (o : Option Open) → (e.op ≡ Acquire l → ⊥) → (e.op ≡ Release l → ⊥) → IsOpen s n l o → IsOpen s (suc n) l o
  kept l None a r is = λ t. unmoved l t a r ∙ is t
  kept l (Some o) a r is =
      stays l o o.depth is (λ ends. r (same_op is.0 (Release l) ends.0).1) (unmoved l is.0 a r ∙ is.4)

  -- A thread that acquires or releases a held lock is its holder.
  acquirer : (l : ℕ) (o : Open) (is : IsOpen s n l (Some o)) → e.op ≡ Acquire l → is.0 ≡ e.thread
  acquirer l o is f = elim (cases_eq is.0 e.thread) [
    | inl same ↦ same
    | inr other ↦ absurd (others_lack s w o.acquire n is.0 e.thread l (Acquire l) is.1 is.2.0 (at_op (Acquire l) f) other (open_holds s n l o is))
  ]

  releaser : (l : ℕ) (o : Open) (is : IsOpen s n l (Some o)) → e.op ≡ Release l → is.0 ≡ e.thread
  releaser l o is f =
      one_holder s w n is.0 e.thread l within (open_holds s n l o is) (releaser_holds s w n e.thread l (at_op (Release l) f))

  after_acquire : (l : ℕ) (o : Option Open) → e.op ≡ Acquire l → IsOpen s n l o → IsOpen s (suc n) l (Some (deeper n o))
  after_acquire l None f is =
      let h = at_op (Acquire l) f in
      (e.thread, omega arith, (h, is e.thread), (λ r a b ends. omega (arith, a, b)), acquired l e.thread h ∙ ap suc (is e.thread))
  after_acquire l (Some o) f is =
      let h : At s n (event is.0 (Acquire l)) = subst (λ t. At s n (event t (Acquire l))) (sym (acquirer l o is f)) (at_op (Acquire l) f) in
      stays l o (suc o.depth) is (λ ends. acquire_no_release (slice_get s n) is.0 l h ends.0) (acquired l is.0 h ∙ ap suc is.4)

  after_release : (l : ℕ) (o : Option Open) → e.op ≡ Release l → IsOpen s n l o → IsOpen s (suc n) l (shallower o)
  after_release l None f is = absurd (omega (arith, releaser_holds s w n e.thread l (at_op (Release l) f), is e.thread))
  after_release l (Some o) f is = go (leb o.depth 1) refl
    where
      h : At s n (event is.0 (Release l))
      h = subst (λ t. At s n (event t (Release l))) (sym (releaser l o is f)) (at_op (Release l) f)

      go : (b : Bool) → leb o.depth 1 ≡ b →
          IsOpen s (suc n) l (cond b None (Some (record { acquire = o.acquire; depth = o.depth - 1 })))
      go false k =
          let deep = leb-false o.depth 1 k in
          stays l o (o.depth - 1) is (λ ends. omega (arith, deep, ends.1, is.4)) (released l is.0 h ∙ ap (λ d. d - 1) is.4)
      go true k = λ t. elim (cases_eq t is.0) [
        | inl same ↦
            let low = leb-true o.depth 1 k in
            let one : depth s (suc n) is.0 l ≡ 0 = omega (arith, low, released l is.0 h, is.4) in
            ap (λ x. depth s (suc n) x l) same ∙ one
        | inr other ↦
            let zero_before = others_zero s w n is.0 t l within (open_holds s n l o is) other in
            elim (depth_cases (slice_get s n) t l (depth s n t l)) [
              | inl x ↦ absurd (let k : Release l ≡ Acquire l = sym f ∙ (same_op t (Acquire l) x.0).1 in cc)
              | inr y ↦ elim y [
                | inl x ↦ omega (arith, x.1, zero_before)
                | inr x ↦ x.2 ∙ zero_before
              ]
            ]
      ]

  -- The sections that are open right after the place.
  pub open_more : (table : ℕ → Option Open) → AreOpen s n table → AreOpen s (suc n) (open_after e.op n table)
  open_more table are l = go e.op refl
    where
      of_acquire : (m : ℕ) → e.op ≡ Acquire m → (b : Bool) → (m == l) ≡ b → IsOpen s (suc n) l (cond b (Some (deeper n (table m))) (table l))
      of_acquire m f true g =
          let same = eqb-true m l g in
          subst (λ k. IsOpen s (suc n) k (Some (deeper n (table m)))) same (after_acquire m (table m) f (are m))
      of_acquire m f false g =
          kept l (table l) (λ h. eqb-false m l g (same_acquire m l (sym f ∙ h))) (λ h. (let k : Acquire m ≡ Release l = sym f ∙ h in cc)) (are l)

      of_release : (m : ℕ) → e.op ≡ Release m → (b : Bool) → (m == l) ≡ b → IsOpen s (suc n) l (cond b (shallower (table m)) (table l))
      of_release m f true g =
          let same = eqb-true m l g in
          subst (λ k. IsOpen s (suc n) k (shallower (table m))) same (after_release m (table m) f (are m))
      of_release m f false g =
          kept l (table l) (λ h. (let k : Release m ≡ Acquire l = sym f ∙ h in cc)) (λ h. eqb-false m l g (same_release m l (sym f ∙ h))) (are l)

      go : (o : Op) → e.op ≡ o → IsOpen s (suc n) l (open_after o n table l)
      go (Acquire m) f = of_acquire m f (m == l) refl
      go (Release m) f = of_release m f (m == l) refl
      go (Fork m) f = kept l (table l) (λ h. (let k : Fork m ≡ Acquire l = sym f ∙ h in cc)) (λ h. (let k : Fork m ≡ Release l = sym f ∙ h in cc)) (are l)
      go (Join m) f = kept l (table l) (λ h. (let k : Join m ≡ Acquire l = sym f ∙ h in cc)) (λ h. (let k : Join m ≡ Release l = sym f ∙ h in cc)) (are l)
      go (Read m) f = kept l (table l) (λ h. (let k : Read m ≡ Acquire l = sym f ∙ h in cc)) (λ h. (let k : Read m ≡ Release l = sym f ∙ h in cc)) (are l)
      go (Write m) f = kept l (table l) (λ h. (let k : Write m ≡ Acquire l = sym f ∙ h in cc)) (λ h. (let k : Write m ≡ Release l = sym f ∙ h in cc)) (are l)

  -- An acquired lock is not too deep.
  pub has_room : (table : ℕ → Option Open) → AreOpen s n table → (l : ℕ) → e.op ≡ Acquire l → IfSome (table l) (λ o. o.depth < MAX_DEPTH)
  has_room table are l f = go (table l) (are l)
    where
      go : (o : Option Open) → IsOpen s n l o → IfSome o (λ x. x.depth < MAX_DEPTH)
      go None is = tt
      go (Some o) is =
          let h : At s n (event is.0 (Acquire l)) = subst (λ t. At s n (event t (Acquire l))) (sym (acquirer l o is f)) (at_op (Acquire l) f) in
          omega (arith, depth_shallow s w is.0 (suc n) l, acquired l is.0 h, is.4)

  -- A section begins if none is open.
  pub begun_seen : (table : ℕ → Option Open) → AreOpen s n table → begun_section table e.op ≡ begun_lock s n
  begun_seen table are = go e.op refl ∙ sym (ap (option_and_then (λ x. begun_of s n x.thread x.op)) at)
    where
      of_acquire : (l : ℕ) → e.op ≡ Acquire l → (o : Option Open) → IsOpen s n l o → begun_if l o ≡ cond (depth s n e.thread l == 0) (Some l) None
      of_acquire l f None is = rw (is e.thread) refl
      of_acquire l f (Some o) is = go (depth s n e.thread l == 0) refl
        where
          holds : Holds s n e.thread l
          holds = subst (λ t. Holds s n t l) (acquirer l o is f) (open_holds s n l o is)

          go : (b : Bool) → (depth s n e.thread l == 0) ≡ b → None ≡ cond b (Some l) None
          go true g = absurd (omega (arith, holds, eqb-true (depth s n e.thread l) 0 g))
          go false g = refl

      go : (o : Op) → e.op ≡ o → begun_section table o ≡ begun_of s n e.thread o
      go (Acquire l) f = of_acquire l f (table l) (are l)
      go (Release l) f = refl
      go (Fork l) f = refl
      go (Join l) f = refl
      go (Read l) f = refl
      go (Write l) f = refl

  -- The section that ends here is that of the acquire with this release.
  pub ended_so : (table : ℕ → Option Open) → AreOpen s n table → (a : ℕ) → ended_section table e.op ≡ Some a → release s a ≡ Some n
  ended_so table are a = go e.op refl
    where
      of_release : (l : ℕ) → e.op ≡ Release l → (o : Option Open) → IsOpen s n l o → ended_if o ≡ Some a → release s a ≡ Some n
      of_release l f None is h = absurd (none-some a h)
      of_release l f (Some o) is h = by (leb o.depth 1) refl h
        where
          by : (b : Bool) → leb o.depth 1 ≡ b → cond b (Some o.acquire) None ≡ Some a → release s a ≡ Some n
          by false k m = absurd (none-some a m)
          by true k m =
              let rel : At s n (event is.0 (Release l)) = subst (λ t. At s n (event t (Release l))) (sym (releaser l o is f)) (at_op (Release l) f) in
              let holds = open_holds s n l o is in
              let one : depth s n is.0 l ≡ 1 = omega (arith, leb-true o.depth 1 k, holds, is.4) in
              subst (λ x. release s x ≡ Some n) (same_Some o.acquire a m)
              (release_is s o.acquire is.0 l n is.2 (is.1, (rel, one), λ u x y ends. is.3 u x y ends))

      go : (o : Op) → e.op ≡ o → ended_section table o ≡ Some a → release s a ≡ Some n
      go (Release l) f h = of_release l f (table l) (are l) h
      go (Acquire l) f h = absurd (none-some a h)
      go (Fork l) f h = absurd (none-some a h)
      go (Join l) f h = absurd (none-some a h)
      go (Read l) f h = absurd (none-some a h)
      go (Write l) f h = absurd (none-some a h)

-- A release ends one section.
release_once : (s : Trace) → IsWellFormed s → (p q r : ℕ) → release s p ≡ Some r → release s q ≡ Some r → p ≡ q
release_once s w p q r a b = go (release_so s p r a) (release_so s q r b)
  where
    early : (x y l : ℕ) → x < y → BeginsOn s x l → BeginsOn s y l → release s x ≡ Some r → y < r → ⊥
    early x y l below bx by is after =
        let (z, f, g, h) = released_between s w x y l below bx by in omega (arith, same_Some z r (sym f ∙ is), h, after)

    go : (t : ℕ) × (l : ℕ) × Begins s p t l × LeastRelease s t l p r → (t : ℕ) × (l : ℕ) × Begins s q t l × LeastRelease s t l q r → p ≡ q
    go (t, l, bp, (pr, ep, np)) (u, m, bq, (qr, eq, nq)) =
        let same : l ≡ m = same_release l m (ap (λ x. x.op) (same_Some (event t (Release l)) (event u (Release m)) (sym ep.0 ∙ eq.0))) in
        let bm : BeginsOn s q l = subst (λ k. BeginsOn s q k) (sym same) (u, bq) in
        elim (cases_lt p q) [
          | inl c ↦ absurd (early p q l c (t, bp) bm a qr)
          | inr c ↦ elim (cases_lt q p) [
            | inl d ↦ absurd (early q p l d bm (t, bp) b pr)
            | inr d ↦ omega arith
          ]
        ]

-- The acquire with this release has the open section that ends there.
pub ended_from : (s : Trace) → IsWellFormed s → (n : ℕ) (e : Event) → At s n e → (table : ℕ → Option Open) → AreOpen s n table →
    (q : ℕ) → release s q ≡ Some n → ended_section table e.op ≡ Some q
ended_from s w n e at table are q h = go (release_so s q n h)
  where
    go : (t : ℕ) × (l : ℕ) × Begins s q t l × LeastRelease s t l q n → ended_section table e.op ≡ Some q
    go (t, l, begins, (after, ends, none)) = ap (ended_section table) (same_op s w n e at t (Release l) ends.0).1 ∙ by (table l) refl (are l)
      where
        by : (o : Option Open) → table l ≡ o → IsOpen s n l o → ended_if o ≡ Some q
        by None f is = absurd (omega (arith, is t, ends.1))
        by (Some o) f is =
            let holds : Holds s n t l = omega (arith, ends.1) in
            let same = one_holder s w n is.0 t l (slice_get_within s n e at) (open_holds s n l o is) holds in
            let one : o.depth ≡ 1 = sym is.4 ∙ ap (λ x. depth s n x l) same ∙ ends.1 in
            let found : ended_if (Some o) ≡ Some o.acquire = rw one refl in
            let op : e.op ≡ Release l = (same_op s w n e at t (Release l) ends.0).1 in
            let is_it = ended_so s w n e at table are o.acquire (ap (ended_section table) op ∙ ap ended_if f ∙ found) in
            found ∙ ap Some (release_once s w o.acquire q n is_it h)

-- ---- the releases so far

-- A release below `n`.
abbrev pub so_far : ℕ → Option ℕ → Option ℕ
so_far n None = None
so_far n (Some r) = cond (ltb r n) (Some r) None

so_far_none : (o : Option ℕ) → so_far 0 o ≡ None
so_far_none None = refl
so_far_none (Some r) = go (ltb r 0) refl
  where
    go : (b : Bool) → ltb r 0 ≡ b → cond b (Some r) None ≡ None
    go true e = absurd (omega (arith, ltb-true r 0 e))
    go false e = refl

so_far_other : (n : ℕ) (o : Option ℕ) → (o ≡ Some n → ⊥) → so_far (suc n) o ≡ so_far n o
so_far_other n None h = refl
so_far_other n (Some r) h = go (ltb r (suc n)) refl (ltb r n) refl
  where
    go : (a : Bool) → ltb r (suc n) ≡ a → (b : Bool) → ltb r n ≡ b → cond a (Some r) None ≡ cond b (Some r) None
    go true e true f = refl
    go false e false f = refl
    go true e false f = absurd (h (ap Some (omega (arith, ltb-true r (suc n) e, ltb-false r n f))))
    go false e true f = absurd (omega (arith, ltb-true r n f, ltb-false r (suc n) e))

so_far_here : (n : ℕ) → so_far (suc n) (Some n) ≡ Some n
so_far_here n = rw (lt-ltb n (suc n) (omega arith)) refl

pub so_far_all : (s : Trace) (q : ℕ) → so_far (length s) (release s q) ≡ release s q
so_far_all s q = go (release s q) refl
  where
    go : (o : Option ℕ) → release s q ≡ o → so_far (length s) o ≡ o
    go None e = refl
    go (Some r) e =
        let is = release_so s q r e in
        rw (lt-ltb r (length s) (slice_get_within s r _ is.3.1.0)) refl

pub releases_more : (s : Trace) (n : ℕ) (rs : List (Option ℕ)) (ended : Option ℕ) → length rs ≡ length s →
    ((a : ℕ) → ended ≡ Some a → release s a ≡ Some n) → ((q : ℕ) → release s q ≡ Some n → ended ≡ Some q) →
    ((q : ℕ) → q < length s → slice_get rs q ≡ Some (so_far n (release s q))) →
    (q : ℕ) → q < length s → slice_get (with_end rs ended n) q ≡ Some (so_far (suc n) (release s q))
releases_more s n rs None sized so from h q below = h q below ∙ ap Some (sym (so_far_other n (release s q) (λ e. none-some q (from q e))))
releases_more s n rs (Some a) sized so from h q below = elim (cases_eq a q) [
  | inl same ↦
      let (x, at) = at_index rs a (omega (arith, same)) in
      subst (λ k. slice_get (with_end rs (Some a) n) k ≡ Some (so_far (suc n) (release s k))) same
      (get-set_same rs a x (Some n) at ∙ ap Some (sym (ap (so_far (suc n)) (so a refl) ∙ so_far_here n)))
  | inr other ↦
      get-set_other rs a q (Some n) other ∙ h q below
      ∙ ap Some (sym (so_far_other n (release s q) (λ e. other (same_Some a q (from q e)))))
]

pub length-with_end : (rs : List (Option ℕ)) (ended : Option ℕ) (n : ℕ) → length (with_end rs ended n) ≡ length rs
length-with_end rs None n = refl
length-with_end rs (Some a) n = length-set rs a (Some n)

pub none_so_far : (s : Trace) (q : ℕ) → q < length s → slice_get (replicate (length s) None) q ≡ Some (so_far 0 (release s q))
none_so_far s q below = get-replicate None (length s) q below ∙ ap Some (sym (so_far_none (release s q)))
  where
    get-replicate : (x : Option ℕ) (n q : ℕ) → q < n → slice_get (replicate n x) q ≡ Some x
    get-replicate x zero q l = absurd (omega arith)
    get-replicate x (suc n) zero l = refl
    get-replicate x (suc n) (suc q) l = get-replicate x n q (omega arith)

pub none_open : (s : Trace) (l : ℕ) → IsOpen s 0 l None
none_open s l t = refl
