-- What the tables of a walk determine: in a walked list, one place decides for the others of its
-- thread, or of its lock.
use Rattle.std.proofs.Common.{◌≡◌, ℕ, zero, suc, ◌+◌, ◌<◌, inl, inr, Bool, true, false, not, cond, ◌==◌, List, [], ◌∷◌, ◌++◌, length, take, slice_get, get_or, set, nat_eq, replicate, Option, Some, None, MatchOption, refl, sym, ◌∙◌, ap, subst, arith}
use Rattle.std.proofs.lemmas.Bool.{cases_lt, cases_eq, eqb-true, eq-eqb, false≢true}
use Rattle.std.proofs.lemmas.Option.{none-some, same_Some, slice_get_within}
use Rattle.std.specs.Option.{option_map_or}
use Rattle.std.specs.List.{Contains}
use Rattle.trace_model.specs.Theory.Trace.{Trace, event, Does, OfThread, EarlierInThread, op_eq, does}
use Rattle.trace_model.specs.declared.traces.event.Op.{Op}
use Rattle.trace_model.specs.Theory.Held.{BeginsOn, begun_lock}
use Rattle.trace_model.specs.Theory.Walk.{LastIn, Follows, Walks}
use Rattle.trace_model.proofs.Theory.Ascending.{place_of, contains_at}
use Rattle.trace_model.proofs.Lists.{get-push, get-push_kept, get-push_last}
use Rattle.trace_model.proofs.Theory.Places.{does_from, op_eq_same}
use Rattle.replay.specs.Walking.{entry_after, noted_begun, IsLastWith, HasLastOfEachKey, IsWalked}
use Rattle.replay.specs.declared.walked.Walked.{Walked}
use Rattle.std.specs.HashMap.{get}
use Rattle.std.specs.Bool.{Decides}
use Rattle.trace_model.specs.declared.traces.event.Op.TheVariants.{Fork, Write}
use Rattle.std.proofs.lemmas.List.{length-set, take_all, take-append-le, get_or-set_same, get_or-set_other}
use Rattle.std.proofs.lemmas.List.Elements.{Contains-append_left, Contains-push, Contains-push_cases}
use Rattle.std.proofs.Math.ListN.{length-replicate}
use Rattle.trace_model.specs.Theory.Lawful.{IsWellFormed}
use Rattle.replay.specs.Verdict.{order_tests, IsFirst}
use Rattle.trace_model.proofs.Theory.Begun.{begun_so, begun_from}
use Rattle.replay.proofs.Lists.{take_more}
use Rattle.replay.proofs.Verdicts.{follows_so}
use Rattle.trace_model.proofs.Theory.Walk.{front_so, front_from, walk_distinct}
use Rattle.replay.specs.Tests.{NoWriteIn, MissesPlace, IsClosedIn, LeavesOpen, HasLater}

pub passed_in : (passed : List ℕ) (k p : ℕ) → Contains (take k passed) p → Contains passed p
passed_in passed k p c = let r = front_so passed k p c in contains_at passed p r.0 r.2

-- With a place, the list contains its earlier ones.
pub walked_threads : (s : Trace) (passed : List ℕ) → Walks s passed → (u p : ℕ) → Contains passed p → EarlierInThread s u p → Contains passed u
walked_threads s passed w u p c e = let (k, h) = place_of passed p c in passed_in passed k u ((w k p h).threads u e)

-- The previous place of the thread.
abbrev pub IsPrevious : Trace → ℕ → ℕ → ℕ → Type 0
IsPrevious s t q p = OfThread s p t × (p < q) × ((u : ℕ) → p < u → u < q → OfThread s u t → ⊥)

-- If the list contains it, it contains all places of the thread below `q`.
pub previous_stands : (s : Trace) (passed : List ℕ) → Walks s passed → (t q p : ℕ) → IsPrevious s t q p → Contains passed p →
    MissesPlace s passed t q → ⊥
previous_stands s passed w t q p (o, l, none) c (u, m, k, n) =
    elim (cases_lt u p) [
      | inl a ↦ n (walked_threads s passed w u p c (t, k, o, a))
      | inr a ↦ elim (cases_lt p u) [
        | inl b ↦ none u b m k
        | inr b ↦ let same : p ≡ u = omega arith in n (subst (Contains passed) same c)
      ]
    ]

-- The last place of the list that begins a section on the lock.
abbrev pub IsLastAcquire : Trace → List ℕ → ℕ → ℕ → Type 0
IsLastAcquire s passed l z = IsLastWith passed (λ u. BeginsOn s u l) z

-- Every other one has its release, and is an earlier place.
pub others_closed : (s : Trace) (passed : List ℕ) → Walks s passed → (l z p : ℕ) → IsLastAcquire s passed l z → Contains passed p → BeginsOn s p l →
    (p ≡ z → ⊥) → IsClosedIn s passed p × (p < z)
others_closed s passed w l z p (i, e, b, none) c d other =
    let (j, h) = place_of passed p c in
    elim (cases_lt j i) [
      | inl a ↦
          let f = front_from passed i p j a h in
          let r = (w i z e).sections p l d b f in
          ((r.0, r.1, passed_in passed i r.0 r.2), (w i z e).lock_order p l d b f)
      | inr a ↦ elim (cases_lt i j) [
        | inl m ↦ absurd (none j p m h d)
        | inr m ↦ let same : j ≡ i = omega arith in absurd (other (same_Some p z (sym h ∙ subst (λ x. slice_get passed x ≡ Some z) (sym same) e)))
      ]
    ]

-- So the lock is open if and only if the last acquire is.
pub last_open : (s : Trace) (passed : List ℕ) → Walks s passed → (l z : ℕ) → IsLastAcquire s passed l z → LeavesOpen s passed l → IsClosedIn s passed z → ⊥
last_open s passed w l z last (p, c, (d, n)) closed =
    elim (cases_lt p z) [
      | inl a ↦ n (others_closed s passed w l z p last c d (λ e. omega (arith, e))).0
      | inr a ↦ elim (cases_lt z p) [
        | inl b ↦ n (others_closed s passed w l z p last c d (λ e. omega (arith, e))).0
        | inr b ↦ let same : z ≡ p = omega arith in n (subst (IsClosedIn s passed) same closed)
      ]
    ]

pub open_last : (s : Trace) (passed : List ℕ) (l z : ℕ) → IsLastAcquire s passed l z → (IsClosedIn s passed z → ⊥) → LeavesOpen s passed l
open_last s passed l z (i, e, b, none) n = (z, contains_at passed z i e, (b, n))

-- The list contains a later one if and only if the last one is later.
pub last_later : (s : Trace) (passed : List ℕ) → Walks s passed → (l z q : ℕ) → IsLastAcquire s passed l z → HasLater s passed q l → q < z
last_later s passed w l z q last (p, c, d, m) =
    elim (cases_lt p z) [
      | inl a ↦ omega arith
      | inr a ↦ elim (cases_lt z p) [
        | inl b ↦ absurd (omega (arith, (others_closed s passed w l z p last c d (λ e. omega (arith, e))).1))
        | inr b ↦ omega arith
      ]
    ]

pub later_last : (s : Trace) (passed : List ℕ) (l z q : ℕ) → IsLastAcquire s passed l z → q < z → HasLater s passed q l
later_last s passed l z q (i, e, b, none) m = (z, contains_at passed z i e, b, m)

-- A table after one more place.
pub keeps_push : (passed : List ℕ) (P : ℕ → ℕ → Type 0) (test : ℕ → Bool) (q : ℕ) (table : ℕ → Option ℕ) → ((key : ℕ) → Decides (test key) (P key q)) →
    HasLastOfEachKey passed P table → HasLastOfEachKey (passed ++ q ∷ []) P (λ key. cond (test key) (Some q) (table key))
keeps_push passed P test q table decides keeps key = go (test key) refl (table key) (keeps key)
  where
    older : test key ≡ false → (j u : ℕ) → slice_get (passed ++ q ∷ []) j ≡ Some u → P key u → slice_get passed j ≡ Some u
    older e j u g d = elim (get-push passed q j u g) [
      | inl a ↦ a
      | inr a ↦ absurd (false≢true (sym e ∙ (decides key).1 (subst (P key) (sym a.1) d)))
    ]

    go : (b : Bool) → test key ≡ b → (o : Option ℕ) → MatchOption o ((u : ℕ) → P key u → Contains passed u → ⊥) (IsLastWith passed (P key)) →
        MatchOption (cond b (Some q) o) ((u : ℕ) → P key u → Contains (passed ++ q ∷ []) u → ⊥) (IsLastWith (passed ++ q ∷ []) (P key))
    go true e o m = (
      length passed,
      get-push_last passed q,
      (decides key).0 e,
      λ j u l g d. elim (get-push passed q j u g) [
        | inl a ↦ omega (arith, slice_get_within passed j u a)
        | inr a ↦ omega (arith, a.0)
      ],
    )
    go false e None m = λ u d c. let r = place_of (passed ++ q ∷ []) u c in m u d (contains_at passed u r.0 (older e r.0 u r.1 d))
    go false e (Some z) m = (m.0, get-push_kept passed q m.0 z m.1, m.2, λ j u l g d. m.3 j u l (older e j u g d) d)

-- The test decides whether an operation is of the kind.
op_decides : (s : Trace) (kind : ℕ → Op) (done : Op) (q : ℕ) → Does s q done → (key : ℕ) → Decides (op_eq done (kind key)) (Does s q (kind key))
op_decides s kind done q (t, h) key =
    ((λ e. (t, h ∙ ap (λ x. Some (event t x)) (op_eq_same done (kind key) e))), λ d. sym same ∙ does_from s (kind key) q d)
  where
    same : does s (kind key) q ≡ op_eq done (kind key)
    same = ap (λ r. option_map_or (λ e. op_eq e.op (kind key)) r false) h

-- The test decides whether a section on the lock begins.
begun_decides : (s : Trace) (q : ℕ) (o : Option ℕ) → begun_lock s q ≡ o → (key : ℕ) → Decides (option_map_or (λ l. l == key) o false) (BeginsOn s q key)
begun_decides s q None e key = ((λ h. absurd (false≢true h)), λ b. absurd (none-some key (sym e ∙ begun_from s q key b)))
begun_decides s q (Some l) e key = (
  (λ h. subst (BeginsOn s q) (eqb-true l key h) (begun_so s q l e)),
  λ b. eq-eqb l key (same_Some l key (sym e ∙ begun_from s q key b)),
)

-- A place of the thread below `q` is missing if and only if the last one is.
pub missed_by_previous : (s : Trace) (passed : List ℕ) → Walks s passed → (t q p : ℕ) (b : Bool) → IsPrevious s t q p →
    (b ≡ true → Contains passed p) × (Contains passed p → b ≡ true) →
    (not b ≡ true → MissesPlace s passed t q) × (MissesPlace s passed t q → not b ≡ true)
missed_by_previous s passed w t q p true is h = (λ e. absurd (false≢true e), λ m. absurd (previous_stands s passed w t q p is (h.0 refl) m))
missed_by_previous s passed w t q p false is h = (λ _. (p, is.1, is.0, λ c. false≢true (h.1 c)), λ _. refl)

-- The entry of a key in a table.
pub kept_some : (passed : List ℕ) (P : ℕ → ℕ → Type 0) (table : ℕ → Option ℕ) → HasLastOfEachKey passed P table → (key z : ℕ) → Some z ≡ table key → IsLastWith passed (P key) z
kept_some passed P table k key z e =
    subst (λ o. MatchOption o ((u : ℕ) → P key u → Contains passed u → ⊥) (IsLastWith passed (P key))) (sym e) (k key)

pub kept_none : (passed : List ℕ) (P : ℕ → ℕ → Type 0) (table : ℕ → Option ℕ) → HasLastOfEachKey passed P table → (key : ℕ) → None ≡ table key →
    (u : ℕ) → P key u → Contains passed u → ⊥
kept_none passed P table k key e =
    subst (λ o. MatchOption o ((u : ℕ) → P key u → Contains passed u → ⊥) (IsLastWith passed (P key))) (sym e) (k key)

-- The last write of the table is the last write in the list.
pub kept_write : (s : Trace) (passed : List ℕ) → Walks s passed → (v : ℕ) (o : Option ℕ) →
    MatchOption o ((u : ℕ) → Does s u (Write v) → Contains passed u → ⊥) (IsLastWith passed (λ u. Does s u (Write v))) →
    MatchOption o (NoWriteIn s passed v) (λ w. LastIn s passed v w × Does s w (Write v))
kept_write s passed w v None h = h
kept_write s passed w v (Some z) (i, e, d, none) = (
  (contains_at passed z i e, λ u x (j, k, l, a, b). let same = walk_distinct s passed w j i z a e in none k u (omega arith) b x),
  d,
)

-- The walk after one more place.
pub walks_push : (s : Trace) (passed : List ℕ) (q : ℕ) → Walks s passed → Follows s passed q → Walks s (passed ++ q ∷ [])
walks_push s passed q w f j u e = elim (get-push passed q j u e) [
  | inl a ↦ subst (λ xs. Follows s xs u) (sym (take-append-le j passed (q ∷ []) (omega (arith, slice_get_within passed j u a)))) (w j u a)
  | inr a ↦
      let at : passed ≡ take j (passed ++ q ∷ []) = sym (subst (λ k. take k (passed ++ q ∷ []) ≡ passed) (sym a.0) (take-append-le (length passed) passed (q ∷ []) (omega arith) ∙ take_all (length passed) passed (omega arith))) in
      subst (λ x. Follows s (take j (passed ++ q ∷ [])) x) a.1 (subst (λ xs. Follows s xs q) at f)
]

inside_push : (passed : List ℕ) (q : ℕ) (inside : List Bool) → q < length inside → ((p : ℕ) → Decides (get_or inside p false) (Contains passed p)) →
    (p : ℕ) → Decides (get_or (set inside q true) p false) (Contains (passed ++ q ∷ []) p)
inside_push passed q inside l h p = elim (cases_eq q p) [
  | inl same ↦ (
    λ _. subst (Contains (passed ++ q ∷ [])) same (Contains-push passed q),
    λ _. subst (λ x. get_or (set inside q true) x false ≡ true) same (get_or-set_same inside q true false l),
  )
  | inr other ↦
      let kept : get_or (set inside q true) p false ≡ get_or inside p false = get_or-set_other inside q p true false (λ e. other (sym e)) in (
        λ e. Contains-append_left passed (q ∷ []) p ((h p).0 (sym kept ∙ e)),
        λ c. elim (Contains-push_cases passed q p c) [ inl a ↦ kept ∙ (h p).1 a | inr e ↦ absurd (other e) ],
      )
]

keeps_as : (passed : List ℕ) (P : ℕ → ℕ → Type 0) (f g : ℕ → Option ℕ) → ((key : ℕ) → g key ≡ f key) → HasLastOfEachKey passed P f → HasLastOfEachKey passed P g
keeps_as passed P f g e k key =
    subst (λ o. MatchOption o ((u : ℕ) → P key u → Contains passed u → ⊥) (IsLastWith passed (P key))) (sym (e key)) (k key)

-- A table of an operation.
keeps_op : (s : Trace) (passed : List ℕ) (q : ℕ) (kind : ℕ → Op) (done : Op) (f g : ℕ → Option ℕ) → Does s q done →
    HasLastOfEachKey passed (λ key u. Does s u (kind key)) f → ((key : ℕ) → g key ≡ entry_after kind done q key (f key)) →
    HasLastOfEachKey (passed ++ q ∷ []) (λ key u. Does s u (kind key)) g
keeps_op s passed q kind done f g d k e =
    let P : ℕ → ℕ → Type 0 = λ key u. Does s u (kind key) in
    keeps_as (passed ++ q ∷ []) P _ g e (keeps_push passed P (λ key. op_eq done (kind key)) q f (op_decides s kind done q d) k)

-- A table of the sections.
keeps_begun : (s : Trace) (passed : List ℕ) (q : ℕ) (b : Option ℕ) (f g : ℕ → Option ℕ) → begun_lock s q ≡ b →
    HasLastOfEachKey passed (λ key u. BeginsOn s u key) f → ((key : ℕ) → g key ≡ noted_begun b q key (f key)) →
    HasLastOfEachKey (passed ++ q ∷ []) (λ key u. BeginsOn s u key) g
keeps_begun s passed q b f g is k e =
    let P : ℕ → ℕ → Type 0 = λ key u. BeginsOn s u key in
    keeps_as (passed ++ q ∷ []) P _ g e (keeps_push passed P (λ key. option_map_or (λ l. l == key) b false) q f (begun_decides s q b is) k)

-- The tables after one more place.
pub walked_push : (s : Trace) (passed : List ℕ) (q : ℕ) (done : Op) (b : Option ℕ) (old new : Walked) → IsWalked s passed old → Follows s passed q → Does s q done → begun_lock s q ≡ b →
    new.inside.items ≡ set old.inside.items q true →
    ((key : ℕ) → get nat_eq new.forks key ≡ entry_after Fork done q key (get nat_eq old.forks key)) →
    ((key : ℕ) → get nat_eq new.writes key ≡ entry_after Write done q key (get nat_eq old.writes key)) →
    ((key : ℕ) → get nat_eq new.acquires key ≡ noted_begun b q key (get nat_eq old.acquires key)) →
    IsWalked s (passed ++ q ∷ []) new
walked_push s passed q done b old new a f d w i x y z = record {
  walked = walks_push s passed q a.walked f;
  sized = ap length i ∙ (length-set old.inside.items q true ∙ a.sized);
  inside = subst (λ xs. (p : ℕ) → Decides (get_or xs p false) (Contains (passed ++ q ∷ []) p)) (sym i)
      (inside_push passed q old.inside.items (omega (arith, f.in_trace, a.sized)) a.inside);
  forks = keeps_op s passed q Fork done (get nat_eq old.forks) (get nat_eq new.forks) d a.forks x;
  writes = keeps_op s passed q Write done (get nat_eq old.writes) (get nat_eq new.writes) d a.writes y;
  acquires = keeps_begun s passed q b (get nat_eq old.acquires) (get nat_eq new.acquires) w a.acquires z;
}

none_inside : (n p : ℕ) → get_or (replicate n false) p false ≡ false
none_inside zero p = refl
none_inside (suc n) zero = refl
none_inside (suc n) (suc p) = none_inside n p

-- The tables at the start.
pub walked_empty : (s : Trace) (t : Walked) → t.inside.items ≡ replicate (length s) false → ((key : ℕ) → get nat_eq t.forks key ≡ None) →
    ((key : ℕ) → get nat_eq t.writes key ≡ None) → ((key : ℕ) → get nat_eq t.acquires key ≡ None) → IsWalked s [] t
walked_empty s t i x y z = record {
  walked = λ k q e. absurd (none-some q e);
  sized = ap length i ∙ length-replicate (length s) false;
  inside = λ p. (
    λ e. absurd (false≢true (sym (ap (λ xs. get_or xs p false) i ∙ none_inside (length s) p) ∙ e)),
    λ c. absurd (none-some p (place_of [] p c).1),
  );
  forks = λ key. empty (get nat_eq t.forks key) (λ u. Does s u (Fork key)) (x key);
  writes = λ key. empty (get nat_eq t.writes key) (λ u. Does s u (Write key)) (y key);
  acquires = λ key. empty (get nat_eq t.acquires key) (λ u. BeginsOn s u key) (z key);
}
  where
    empty : (o : Option ℕ) (P : ℕ → Type 0) → o ≡ None → MatchOption o ((u : ℕ) → P u → Contains [] u → ⊥) (IsLastWith [] P)
    empty o P e = subst (λ r. MatchOption r ((u : ℕ) → P u → Contains [] u → ⊥) (IsLastWith [] P)) (sym e) (λ u d c. none-some u (place_of [] u c).1)

-- The tables of the longer list.
pub walked_next : (s : Trace) → IsWellFormed s → (order : List ℕ) (k q : ℕ) (done : Op) (b : Option ℕ) (old new : Walked) → slice_get order k ≡ Some q →
    IsWalked s (take k order) old → IsFirst order_tests s (take k order) q None → Does s q done → begun_lock s q ≡ b →
    new.inside.items ≡ set old.inside.items q true →
    ((key : ℕ) → get nat_eq new.forks key ≡ entry_after Fork done q key (get nat_eq old.forks key)) →
    ((key : ℕ) → get nat_eq new.writes key ≡ entry_after Write done q key (get nat_eq old.writes key)) →
    ((key : ℕ) → get nat_eq new.acquires key ≡ noted_begun b q key (get nat_eq old.acquires key)) →
    IsWalked s (take (k + 1) order) new
walked_next s wf order k q done b old new e a f d w i x y z =
    subst (λ xs. IsWalked s xs new) (sym (take_more order k q e))
    (walked_push s (take k order) q done b old new a (follows_so s wf (take k order) q f) d w i x y z)
