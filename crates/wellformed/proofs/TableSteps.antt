-- One more event, in the tables and in the events.
use Rattle.std.proofs.Common.{◌≡◌, ℕ, ◌+◌, ◌-◌, ◌<◌, Bool, true, false, cond, leb, ◌==◌, ◌||◌, List, [], ◌∷◌, ◌++◌, length, None, refl, sym, ap, ◌∙◌, arith}
use Rattle.std.proofs.lemmas.Bool.{eqb-true, eqb-false}
use Rattle.trace_model.specs.declared.traces.event.Event.{Event}
use Rattle.trace_model.specs.declared.traces.event.Op.{Op}
use Rattle.trace_model.specs.declared.traces.event.Op.TheVariants.{Fork, Join, Acquire, Release}
use Rattle.trace_model.specs.declared.limits.TheConstants.{MAX_DEPTH}
use Rattle.trace_model.specs.Theory.Trace.{Trace, op_eq}
use Rattle.trace_model.specs.Theory.Held.{depth, has, held_set, held_after, with_lock, without_lock}
use Rattle.trace_model.specs.Theory.Holders.{owner_depth, owner, owner_after}
use Rattle.trace_model.specs.Theory.Lawful.{is_fork, op_refusal_of, IsWellFormed}
use Rattle.trace_model.proofs.Theory.Held.{held_from, held_so}
use Rattle.trace_model.proofs.Theory.HeldAscends.{ascends_held}
use Rattle.trace_model.proofs.Theory.OneMore.{stands-push, forks-push, held-push, lawful_acquire, lawful_release}
use Rattle.trace_model.proofs.Theory.Owners.{owner-push, acquired_owned, released_owned}
use Rattle.trace_model.proofs.Theory.Depths.{length-with, length-without, with-known}
use Rattle.wellformed.specs.Owners.{OwnerTable, owner_in, op_owner}
use Rattle.wellformed.specs.Threads.{ThreadTable, thread_in, thread_after, held_count_after, unknown_thread}
use Rattle.wellformed.specs.Tables.{AreAdmissionTables}

-- ---- the depth of the event's lock

module _ (s : Trace) (w : IsWellFormed s) (t : ℕ) where
  pub acquire_room : (l : ℕ) → op_refusal_of s t (Acquire l) ≡ None → owner_depth (owner s l) < MAX_DEPTH
  acquire_room l lawful = omega (arith, acquired_owned s w t l lawful, (lawful_acquire s t l lawful).0)

  -- ---- how many locks are held

  abbrev Locks : List ℕ
  Locks = held_set s (length s) t

  acquire_count : (l d : ℕ) → d ≡ depth s (length s) t l → (b : Bool) → (d == 0) ≡ b → length (with_lock l Locks) ≡ cond b (length Locks + 1) (length Locks)
  acquire_count l d same true e = omega (arith, length-with l Locks (lacks (has l Locks) refl))
    where
      lacks : (b : Bool) → has l Locks ≡ b → b ≡ false
      lacks true h = absurd (omega (arith, eqb-true d 0 e, same, held_so s (length s) t l h))
      lacks false h = refl
  acquire_count l d same false e =
      let other = eqb-false d 0 e in
      ap length (with-known l Locks (ascends_held s (length s) t) (held_from s (length s) t l (omega (arith, same, other))))

  release_count : (l : ℕ) → op_refusal_of s t (Release l) ≡ None → (b : Bool) →
      length (cond b (without_lock l Locks) Locks) ≡ cond b (length Locks - 1) (length Locks)
  release_count l lawful true =
      omega (arith, length-without l Locks (ascends_held s (length s) t) (held_from s (length s) t l (lawful_release s t l lawful)))
  release_count l lawful false = refl

  count_op : (owners : OwnerTable) → ((l : ℕ) → owner_in owners l ≡ owner s l) → (op : Op) → op_refusal_of s t op ≡ None →
      length (held_after (depth s (length s) t) op Locks) ≡ held_count_after (owner_depth (op_owner owners op)) op (length Locks)
  count_op owners is (Acquire l) lawful =
      let same = ap owner_depth (is l) ∙ sym (acquired_owned s w t l lawful) in
      acquire_count l (owner_depth (owner_in owners l)) same (owner_depth (owner_in owners l) == 0) refl
  count_op owners is (Release l) lawful =
      release_count l lawful (leb (depth s (length s) t l) 1)
      ∙ ap (λ d. cond (leb d 1) (length Locks - 1) (length Locks)) (released_owned s w t l lawful ∙ ap owner_depth (sym (is l)))
  count_op owners is _ lawful = refl

  count_event : (owners : OwnerTable) → ((l : ℕ) → owner_in owners l ≡ owner s l) → (b : Bool) (op : Op) → (b ≡ true → op_refusal_of s t op ≡ None) →
      length (cond b (held_after (depth s (length s) t) op Locks) Locks) ≡ cond b (held_count_after (owner_depth (op_owner owners op)) op (length Locks)) (length Locks)
  count_event owners is true op lawful = count_op owners is op (lawful refl)
  count_event owners is false op lawful = refl

-- ---- the tables

pub tables-push : (s : Trace) (e : Event) (threads threads' : ThreadTable) (owners owners' : OwnerTable) (n m : ℕ) →
    IsWellFormed s → AreAdmissionTables s threads owners n → op_refusal_of s e.thread e.op ≡ None →
    ((t : ℕ) → thread_in threads' t ≡ thread_after (owner_depth (op_owner owners e.op)) e t (thread_in threads t)) →
    ((l : ℕ) → owner_in owners' l ≡ owner_after l (owner_in owners l) e) →
    m ≡ n + cond (is_fork e.op) 1 0 →
    AreAdmissionTables (s ++ e ∷ []) threads' owners' m
tables-push s e threads threads' owners owners' n m w old lawful by_thread by_lock more = record {
  forked_is = λ t. ap (λ x. x.forked) (by_thread t) ∙ ap (λ b. b || op_eq e.op (Fork t)) (old.forked_is t) ∙ sym (stands-push s e (Fork t));
  joined_is = λ t. ap (λ x. x.joined) (by_thread t) ∙ ap (λ b. b || op_eq e.op (Join t)) (old.joined_is t) ∙ sym (stands-push s e (Join t));
  held_is = λ t.
      ap (λ x. x.held) (by_thread t) ∙ ap (λ k. cond (e.thread == t) (held_count_after (owner_depth (op_owner owners e.op)) e.op k) k) (old.held_is t)
      ∙ sym (count_event s w t owners old.owner_is (e.thread == t) e.op (λ here. ap (λ u. op_refusal_of s u e.op) (sym (eqb-true e.thread t here)) ∙ lawful))
      ∙ ap length (sym (held-push s e t));
  owner_is = λ l. by_lock l ∙ ap (λ o. owner_after l o e) (old.owner_is l) ∙ sym (owner-push s e l);
  forks_is = more ∙ ap (λ k. k + cond (is_fork e.op) 1 0) old.forks_is ∙ sym (forks-push s e);
}

pub tables-none : (threads : ThreadTable) (owners : OwnerTable) → ((t : ℕ) → thread_in threads t ≡ unknown_thread) → ((l : ℕ) → owner_in owners l ≡ None) → AreAdmissionTables [] threads owners 0
tables-none threads owners no_thread no_lock = record {
  forked_is = λ t. ap (λ x. x.forked) (no_thread t);
  joined_is = λ t. ap (λ x. x.joined) (no_thread t);
  held_is = λ t. ap (λ x. x.held) (no_thread t);
  owner_is = no_lock;
  forks_is = refl;
}
