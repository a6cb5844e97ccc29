-- A table that follows a trace, one event further.
use Rattle.std.proofs.Common.{take, length-take, ◌≡◌, ℕ, suc, ◌<◌, ◌==◌, true, false, cond, List, [], ◌∷◌, ◌++◌, length, Some, refl, sym, ap, subst, ◌∙◌, arith}
use Rattle.std.proofs.lemmas.Bool.{false≢true, le-ltb}
use Rattle.std.proofs.lemmas.Option.{slice_get_within}
use Rattle.trace_model.specs.declared.traces.event.Event.{Event}
use Rattle.trace_model.specs.declared.traces.event.Op.{Op}
use Rattle.trace_model.specs.declared.traces.event.Op.TheVariants.{Fork, Join, Acquire, Release, Read, Write}
use Rattle.trace_model.specs.declared.limits.TheConstants.{MAX_EVENTS}
use Rattle.trace_model.specs.Theory.Trace.{Trace, event, At}
use Rattle.trace_model.specs.Theory.Held.{depth, depth_after, depth_step, held_after, held_step, held_set}
use Rattle.trace_model.proofs.Lists.{get-append, get-push_last, get-take, length-push}
use Rattle.trace_model.proofs.Theory.Prefix.{Agree, depth-agree, held_step-agree, held-agree}
use Rattle.trace_model.proofs.Theory.Lawful.{lawful_parts}
use Rattle.trace_model.proofs.Theory.OneMore.{lawful_acquire}
use Rattle.held_sets.specs.Tables.{HoldingTable, locks_of, depth_of, holding_in, held_in, holding_depth, IsAfter, HasHeldSetsOf, keeps_locks, HoldingTablesFollow, HoldingTablesGrow, LawfulAcquiresFit, AcquiresFit}

pub follows_after : (old new : HoldingTable) (s : Trace) (n : ℕ) (e : Event) → HasHeldSetsOf old s n → At s n e →
    IsAfter old e.thread e.op new → HasHeldSetsOf new s (suc n)
follows_after old new s n e f a h = record {
  held = λ u.
      h.held u
      ∙ ap (held_step (holding_depth old u) (Some e) u) (f.held u)
      ∙ held_step-agree (holding_depth old u) (depth s n u) (Some e) u (held_set s n u) (f.depth u)
      ∙ ap (λ o. held_step (depth s n u) o u (held_set s n u)) (sym a);
  depth = λ u l. h.depth u l ∙ ap (depth_step (Some e) u l) (f.depth u l) ∙ ap (λ o. depth_step o u l (depth s n u l)) (sym a);
}

same_after : (o : Op) (depths : ℕ → ℕ) (ks : List ℕ) → keeps_locks o ≡ true → (held_after depths o ks ≡ ks) × ((l n : ℕ) → depth_after o l n ≡ n)
same_after (Acquire l) depths ks h = absurd (false≢true h)
same_after (Release l) depths ks h = absurd (false≢true h)
same_after (Fork c) depths ks h = (refl, λ _ _. refl)
same_after (Join c) depths ks h = (refl, λ _ _. refl)
same_after (Read v) depths ks h = (refl, λ _ _. refl)
same_after (Write v) depths ks h = (refl, λ _ _. refl)

pub after_itself : (table : HoldingTable) (e : Event) → keeps_locks e.op ≡ true → IsAfter table e.thread e.op table
after_itself table e h = record {
  held = λ u.
      elim (e.thread == u) as (λ b. held_in table u ≡ cond b (held_after (holding_depth table u) e.op (held_in table u)) (held_in table u)) [
        | true ↦ sym (same_after e.op (holding_depth table u) (held_in table u) h).0
        | false ↦ refl
      ];
  depth = λ u l.
      elim (e.thread == u) as (λ b. holding_depth table u l ≡ cond b (depth_after e.op l (holding_depth table u l)) (holding_depth table u l)) [
        | true ↦ sym ((same_after e.op (holding_depth table u) (held_in table u) h).1 l (holding_depth table u l))
        | false ↦ refl
      ];
}

-- a table with the same holdings follows the same trace
pub follows_shown : (old new : HoldingTable) (s : Trace) (n : ℕ) → ((t : ℕ) → holding_in new t ≡ holding_in old t) → HasHeldSetsOf old s n → HasHeldSetsOf new s n
follows_shown old new s n same f = record {
  held = λ t. ap locks_of (same t) ∙ f.held t;
  depth = λ t l. ap (λ ds. depth_of ds l) (same t) ∙ f.depth t l;
}

pub tables_follow : HoldingTablesFollow
tables_follow old new s n e f a = (follows_after old new s n e f a, λ h. follows_after old old s n e f a (after_itself old e h))

-- a table that follows a trace follows each trace with the same events before the place
follows_agreeing : (table : HoldingTable) (s r : Trace) (n : ℕ) → Agree n r s → HasHeldSetsOf table s n → HasHeldSetsOf table r n
follows_agreeing table s r n same f = record {
  held = λ u. f.held u ∙ sym (held-agree r s n u same);
  depth = λ u l. f.depth u l ∙ sym (depth-agree r s n u l same);
}

-- and so it follows the longer trace
pub follows_longer : (table : HoldingTable) (s : Trace) (e : Event) → HasHeldSetsOf table s (length s) → HasHeldSetsOf table (s ++ e ∷ []) (length s)
follows_longer table s e f = follows_agreeing table s (s ++ e ∷ []) (length s) (λ p l. get-append s (e ∷ []) p l) f

pub tables_grow : HoldingTablesGrow
tables_grow old new s e f =
    let g = follows_longer old s e f in
    let a = get-push_last s e in (
      λ h. subst (HasHeldSetsOf new (s ++ e ∷ [])) (sym (length-push s e)) (follows_after old new (s ++ e ∷ []) (length s) e g a h),
      λ h. subst (HasHeldSetsOf old (s ++ e ∷ [])) (sym (length-push s e)) (follows_after old old (s ++ e ∷ []) (length s) e g a (after_itself old e h)),
    )

pub lawful_acquires_fit : LawfulAcquiresFit
lawful_acquires_fit table limit s t l f h =
    let passed = lawful_acquire s t l (lawful_parts limit s t (Acquire l) h).2 in (
      omega (arith, f.depth t l, passed.0),
      λ none. omega (arith, ap length (f.held t), passed.2 (le-ltb 0 (depth s (length s) t l) (omega (arith, none, f.depth t l)))),
    )

pub acquires_fit : AcquiresFit
acquires_fit table s n t l w f a =
    let below : n < length s = slice_get_within s n (event t (Acquire l)) a in
    let whole : length (take n s) ≡ n = omega (arith, length-take n s) in
    lawful_acquires_fit table MAX_EVENTS (take n s) t l
    (subst (HasHeldSetsOf table (take n s)) (sym whole) (follows_agreeing table s (take n s) n (λ p lt. get-take n s p lt) f))
    (w n (event t (Acquire l)) a)
