-- The depths of locks before each row.
use Rattle.std.proofs.Common.{◌≡◌, ℕ, suc, ◌+◌, ◌-◌, ◌≤◌, nat_eq, inl, inr, Bool, true, false, cond, leb, List, [], ◌∷◌, ◌++◌, length, take, slice_get, Option, Some, None, refl, sym, ap, subst, ◌∙◌, arith}
use Rattle.std.proofs.lemmas.Bool.{eqb-true, leb-true, cases_lt}
use Rattle.std.proofs.lemmas.Option.{none-some, same_Some, slice_get_within}
use Rattle.trace_model.specs.declared.traces.event.Event.{Event}
use Rattle.trace_model.specs.declared.traces.event.Op.{Op}
use Rattle.trace_model.specs.declared.traces.event.Op.TheVariants.{Acquire, Release}
use Rattle.trace_model.specs.declared.limits.TheConstants.{MAX_EVENTS}
use Rattle.trace_model.specs.declared.traces.owner.Owner.{Owner}
use Rattle.trace_model.specs.Theory.Trace.{Trace, At}
use Rattle.trace_model.specs.Theory.Held.{depth}
use Rattle.trace_model.specs.Theory.Holders.{owner, owner_after, owner_depth, owner_after_release}
use Rattle.trace_model.specs.Theory.Lawful.{refusal_of, op_refusal_of, IsWellFormed}
use Rattle.trace_model.proofs.Theory.Growing.{well_formed_take}
use Rattle.trace_model.proofs.Theory.Lawful.{passed}
use Rattle.trace_model.proofs.Lists.{get-append, get-take, get-take_past, get-push_last, length-push}
use Rattle.trace_model.proofs.Theory.OneMore.{lawful_op, lawful_acquire}
use Rattle.trace_model.proofs.Theory.Owners.{owner-push, acquired_owned, released_owned}
use Rattle.trace_model.proofs.Theory.Prefix.{Agree, depth-agree}
use Rattle.trace_model.proofs.Theory.Sections.{depth-take}
use Rattle.trace_index.specs.declared.row.IndexRow.{IndexRow}
use Rattle.trace_index.specs.Depths.{DepthTable, lock_depth, op_depth, event_depth, IsShallow, depth_noted, AreDeep, AreDepths}
use Rattle.trace_index.specs.Links.{trace_of}
use Rattle.trace_index.proofs.KeyLists.{length_trace, trace_push, trace_take}
use Rattle.segments.proofs.Lists.{take_one_more}

-- ---- by owners and by threads

-- the depth of each lock, by its owner
abbrev pub owned_in : Trace → ℕ → ℕ
owned_in s l = owner_depth (owner s l)

pub op_depth-agree : (f g : ℕ → ℕ) (o : Op) → ((l : ℕ) → f l ≡ g l) → op_depth f o ≡ op_depth g o
op_depth-agree f g (Acquire l) h = h l
op_depth-agree f g (Release l) h = h l
op_depth-agree f g _ h = refl

-- before a lawful event, the depth of its lock is the depth for its thread
lawful_depth : (s : Trace) → IsWellFormed s → (t : ℕ) (o : Op) → op_refusal_of s t o ≡ None →
    op_depth (owned_in s) o ≡ op_depth (depth s (length s) t) o
lawful_depth s w t (Acquire l) h = sym (acquired_owned s w t l h)
lawful_depth s w t (Release l) h = sym (released_owned s w t l h)
lawful_depth s w t _ h = refl

lawful_shallow : (s : Trace) (t : ℕ) (o : Op) → op_refusal_of s t o ≡ None → IsShallow o (op_depth (depth s (length s) t) o)
lawful_shallow s t (Acquire l) h = (lawful_acquire s t l h).0
lawful_shallow s t _ h = tt

-- the row of a lawful acquire is below the limit
pub next_shallow : (s : Trace) → IsWellFormed s → (e : Event) (d : ℕ) → refusal_of MAX_EVENTS s e ≡ None → d ≡ op_depth (owned_in s) e.op → IsShallow e.op d
next_shallow s w e d lawful is =
    let op = lawful_op MAX_EVENTS s e lawful in
    subst (IsShallow e.op) (sym (is ∙ lawful_depth s w e.thread e.op op)) (lawful_shallow s e.thread e.op op)

module _ (s : Trace) (w : IsWellFormed s) (p : ℕ) (e : Event) (at : At s p e) where
  there : op_refusal_of (take p s) e.thread e.op ≡ None
  there = (passed s w p e.thread e.op at).2

  same : op_depth (depth (take p s) (length (take p s)) e.thread) e.op ≡ event_depth s p e
  same = op_depth-agree (depth (take p s) (length (take p s)) e.thread) (depth s p e.thread) e.op (λ l. depth-take s p e.thread l (slice_get_within s p e at))

  pub owned_there : op_depth (owned_in (take p s)) e.op ≡ event_depth s p e
  owned_there = lawful_depth (take p s) (well_formed_take s p w) e.thread e.op there ∙ same

  pub shallow_there : IsShallow e.op (event_depth s p e)
  shallow_there = subst (IsShallow e.op) same (lawful_shallow (take p s) e.thread e.op there)

-- ---- one more event

released_less : (o : Option Owner) → owner_depth (owner_after_release o) ≡ owner_depth o - 1
released_less None = refl
released_less (Some x) = go (leb x.depth 1) refl
  where
    go : (b : Bool) → leb x.depth 1 ≡ b → owner_depth (cond b None (Some (record { thread = x.thread; depth = x.depth - 1 }))) ≡ x.depth - 1
    go true e = let least = leb-true x.depth 1 e in omega arith
    go false e = refl

noted_is : (s : Trace) (t : ℕ) (o : Op) (l : ℕ) →
    depth_noted o (op_depth (owned_in s) o) l (owned_in s l) ≡ owner_depth (owner_after l (owner s l) (record { thread = t; op = o }))
noted_is s t (Acquire m) l = go (nat_eq m l) refl
  where
    go : (b : Bool) → nat_eq m l ≡ b → cond b (suc (owned_in s m)) (owned_in s l)
        ≡ owner_depth (cond b (Some (record { thread = t; depth = suc (owner_depth (owner s l)) })) (owner s l))
    go true e = ap (λ k. suc (owned_in s k)) (eqb-true m l e)
    go false e = refl
noted_is s t (Release m) l = go (nat_eq m l) refl
  where
    go : (b : Bool) → nat_eq m l ≡ b → cond b (owned_in s m - 1) (owned_in s l) ≡ owner_depth (cond b (owner_after_release (owner s l)) (owner s l))
    go true e = ap (λ k. owned_in s k - 1) (eqb-true m l e) ∙ sym (released_less (owner s l))
    go false e = refl
noted_is s t _ l = refl

-- the depths after one more event
pub depths_push : (s : Trace) (e : Event) (d : ℕ) (old : DepthTable) (new : DepthTable) → ((l : ℕ) → lock_depth old l ≡ owned_in s l) →
    d ≡ op_depth (owned_in s) e.op → ((l : ℕ) → lock_depth new l ≡ depth_noted e.op d l (lock_depth old l)) →
    (l : ℕ) → lock_depth new l ≡ owned_in (s ++ e ∷ []) l
depths_push s e d old new are is more l =
    more l ∙ ap (depth_noted e.op d l) (are l) ∙ ap (λ k. depth_noted e.op k l (owned_in s l)) is
    ∙ noted_is s e.thread e.op l ∙ ap owner_depth (sym (owner-push s e l))

-- the same for the event at the next place
pub depths_next : (s : Trace) → IsWellFormed s → (n : ℕ) (e : Event) (d : ℕ) (old : DepthTable) (new : DepthTable) → At s n e → d ≡ event_depth s n e →
    AreDepths s n old → ((l : ℕ) → lock_depth new l ≡ depth_noted e.op d l (lock_depth old l)) → AreDepths s (n + 1) new
depths_next s w n e d old new at is are more l =
    depths_push (take n s) e d old new are (is ∙ sym (owned_there s w n e at)) more l ∙ ap (λ r. owned_in r l) (sym (take_one_more s n e (sym at)))

-- ---- the rows

event_depth-agree : (s r : Trace) (p : ℕ) (e : Event) → Agree p s r → event_depth s p e ≡ event_depth r p e
event_depth-agree s r p e same = op_depth-agree (depth s p e.thread) (depth r p e.thread) e.op (λ l. depth-agree s r p e.thread l same)

pub deep_none : AreDeep []
deep_none p row h = absurd (none-some row h)

pub deep_take : (n : ℕ) (rows : List IndexRow) → AreDeep rows → AreDeep (take n rows)
deep_take n rows are p row h =
    let below = get-take_past n rows p row h in
    are p row (sym (get-take n rows p below) ∙ h)
    ∙ event_depth-agree (trace_of rows) (take n (trace_of rows)) p row.event (λ u l. sym (get-take n (trace_of rows) u (omega arith)))
    ∙ ap (λ s. event_depth s p row.event) (sym (trace_take n rows))

pub deep_push : (rows : List IndexRow) (row : IndexRow) → IsWellFormed (trace_of rows) → AreDeep rows → row.depth ≡ op_depth (owned_in (trace_of rows)) row.event.op →
    refusal_of MAX_EVENTS (trace_of rows) row.event ≡ None → AreDeep (rows ++ row ∷ [])
deep_push rows row w are is lawful p x h = elim (cases_lt p (length rows)) [
  | inl l ↦
      let old : slice_get rows p ≡ Some x = sym (get-append rows (row ∷ []) p l) ∙ h in
      are p x old ∙ longer p x.event (omega (arith, length_trace rows))
  | inr l ↦
      let within = slice_get_within (rows ++ row ∷ []) p x h in
      let len = length-push rows row in
      let at : p ≡ length rows = omega arith in
      let here : row ≡ x = same_Some row x (sym (get-push_last rows row) ∙ ap (slice_get (rows ++ row ∷ [])) (sym at) ∙ h) in
      subst (λ n. x.depth ≡ event_depth (trace_of (rows ++ row ∷ [])) n x.event) (sym at)
      (subst (λ y. y.depth ≡ event_depth (trace_of (rows ++ row ∷ [])) (length rows) y.event) here last)
]
  where
    s : Trace
    s = trace_of rows

    longer : (p : ℕ) (e : Event) → p ≤ length s → event_depth s p e ≡ event_depth (trace_of (rows ++ row ∷ [])) p e
    longer p e l =
        event_depth-agree s (s ++ row.event ∷ []) p e (λ u m. sym (get-append s (row.event ∷ []) u (omega arith)))
        ∙ ap (λ r. event_depth r p e) (sym (trace_push rows row))

    last : row.depth ≡ event_depth (trace_of (rows ++ row ∷ [])) (length rows) row.event
    last =
        is ∙ lawful_depth s w row.event.thread row.event.op (lawful_op MAX_EVENTS s row.event lawful)
        ∙ ap (λ n. event_depth s n row.event) (length_trace rows) ∙ longer (length rows) row.event (omega (arith, length_trace rows))
