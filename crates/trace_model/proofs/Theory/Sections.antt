-- Critical sections of one lock do not overlap in a well-formed trace.
use Rattle.std.proofs.Common.{◌≡◌, ◌≢◌, ℕ, suc, ◌-◌, ◌<◌, inl, inr, true, false, not, ltb, leb, ◌==◌, ◌&&◌, length, take, Option, Some, None, refl, sym, ap, subst, ◌∙◌, arith}
use Rattle.std.proofs.lemmas.Bool.{eqb-false, ne_eqb, false≢true, and_parts, and_from, not-true, not_from_false, cases_eq, ltb-true, lt-ltb}
use Rattle.std.proofs.lemmas.List.{length-take-le}
use Rattle.std.proofs.lemmas.Option.{slice_get_within}
use Rattle.trace_model.specs.declared.traces.event.Op.{Op}
use Rattle.trace_model.specs.declared.traces.event.Op.TheVariants.{Acquire}
use Rattle.trace_model.specs.declared.refusal.Refusal.TheVariants.{TooNested, HeldByOther}
use Rattle.trace_model.specs.declared.limits.TheConstants.{MAX_DEPTH}
use Rattle.trace_model.specs.Theory.Trace.{Trace, event, At, first_place}
use Rattle.trace_model.specs.Theory.Held.{depth, Begins, BeginsOn, Holds, ends_of}
use Rattle.trace_model.specs.Theory.Lookups.{release}
use Rattle.trace_model.specs.Theory.Lawful.{held_by, held_by_other, IsWellFormed}
use Rattle.trace_model.proofs.Theory.Places.{first_place_some, first_place_none}
use Rattle.trace_model.proofs.Theory.Held.{section_of, section_holds}
use Rattle.trace_model.proofs.Theory.Prefix.{depth-agree}
use Rattle.trace_model.proofs.Theory.Lawful.{passes, passed}
use Rattle.trace_model.proofs.Lists.{get-take, none_passes, passes_some, some_passes}
use Rattle.trace_model.proofs.Theory.Lookups.{ends_so, ends_from, release_is}

-- the test on the trace before q decides what is held right before q
pub depth-take : (s : Trace) (q t l : ℕ) → q < length s → depth (take q s) (length (take q s)) t l ≡ depth s q t l
depth-take s q t l below =
    rw (length-take-le q s (omega arith), depth-agree (take q s) s q t l (λ p k. get-take q s p k)) refl

pub held_by-take : (s : Trace) (q t l : ℕ) → q < length s → held_by (take q s) t l ≡ ltb 0 (depth s q t l)
held_by-take s q t l below = ap (ltb 0) (depth-take s q t l below)

-- no other thread holds the lock right before an acquire of it
pub others_lack : (s : Trace) → IsWellFormed s → (p q t u l : ℕ) (o : Op) →
    p < q → At s p (event t o) → At s q (event u (Acquire l)) → t ≢ u → Holds s q t l → ⊥
others_lack s w p q t u l o below e h other held_there =
    let within : q < length s = slice_get_within s q (event u (Acquire l)) h in
    let a = passes (leb MAX_DEPTH (depth (take q s) (length (take q s)) u l)) TooNested _ (passed s w q u (Acquire l) h).2 in
    let b = passes (held_by_other (take q s) u l) HeldByOther _ a.1 in
    let is_held : held_by (take q s) t l ≡ true = held_by-take s q t l within ∙ lt-ltb 0 (depth s q t l) held_there in
    let c : (not (t == u) && held_by (take q s) t l) ≡ false =
    none_passes (λ x. not (x.thread == u) && held_by (take q s) x.thread l) (take q s) p (event t o) b.0 (get-take q s p below ∙ e) in
    false≢true (sym c ∙ rw (ne_eqb t u other, is_held) refl)

-- no thread holds the lock right before a section on it begins
pub nobody_holds : (s : Trace) → IsWellFormed s → (p q t u l : ℕ) (o : Op) →
    p < q → At s p (event t o) → Begins s q u l → Holds s q t l → ⊥
nobody_holds s w p q t u l o below e h held_there = elim (cases_eq t u) [
  | inl same ↦ omega (arith, held_there, subst (λ x. depth s q x l ≡ 0) (sym same) h.1)
  | inr other ↦ others_lack s w p q t u l o below e h.0 other held_there
]

-- of two sections on one lock, the earlier ends before the later begins
pub released_between : (s : Trace) → IsWellFormed s → (p q l : ℕ) → p < q → BeginsOn s p l → BeginsOn s q l →
    (r : ℕ) × (release s p ≡ Some r) × (p < r) × (r < q)
released_between s w p q l below (t, h) (u, k) = go (first_place (ends_of s t l) (suc p) (q - suc p)) refl
  where
    go : (o : Option ℕ) → first_place (ends_of s t l) (suc p) (q - suc p) ≡ o →
        (r : ℕ) × (release s p ≡ Some r) × (p < r) × (r < q)
    go None e = absurd (nobody_holds s w p q t u l (Acquire l) below h.0 k
        (section_holds s q t l (p, below, h, λ r a b ends. first_place_none (ends_of s t l) (suc p) (q - suc p) e r a (omega arith) (ends_from s t l r ends))))
    go (Some r) e =
        let f = first_place_some (ends_of s t l) (suc p) (q - suc p) r e in
        (r, release_is s p t l r h (f.0, ends_so s t l r f.2, λ x a b d. f.3 x a b (ends_from s t l x d)), f.0, omega (arith, f.1))

pub other_so : (s : Trace) (t l : ℕ) → held_by_other s t l ≡ true → (u : ℕ) × (u ≢ t) × Holds s (length s) u l
other_so s t l h =
    let (p, x, e, k) = some_passes (λ e. not (e.thread == t) && held_by s e.thread l) s h in
    let b = and_parts (not (x.thread == t)) (held_by s x.thread l) k in
    (x.thread, eqb-false x.thread t (not-true (x.thread == t) b.0), ltb-true 0 (depth s (length s) x.thread l) b.1)

pub other_from : (s : Trace) (t l : ℕ) → (u : ℕ) × (u ≢ t) × Holds s (length s) u l → held_by_other s t l ≡ true
other_from s t l (u, other, holds) =
    let (a, below, begins, none) = section_of s (length s) u l holds in
    passes_some (λ e. not (e.thread == t) && held_by s e.thread l) s a (event u (Acquire l)) begins.0
    (and_from (not (u == t)) (held_by s u l) (not_from_false (u == t) (ne_eqb u t other)) (lt-ltb 0 (depth s (length s) u l) holds))
