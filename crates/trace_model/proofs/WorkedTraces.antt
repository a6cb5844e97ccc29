-- The definitions that compute, at small traces.
use Rattle.std.proofs.Common.{◌≡◌, ℕ, List, [], ◌∷◌, take, Some, None, map, refl, inl, inr, arith}
use Rattle.trace_model.specs.declared.refusal.Refusal.TheVariants.{Full, Unforked, Ended, AlreadyForked, JoinsItself, JoinUnknown, JoinedTwice, HeldByOther, NotHeld}
use Rattle.trace_model.specs.Theory.Trace.{Trace}
use Rattle.trace_model.specs.Theory.Lawful.{refusal_of}
use Rattle.trace_model.specs.Theory.Lookups.{writer, release}
use Rattle.trace_model.specs.Theory.Dependencies.{Dependency, dependencies}
use Rattle.trace_model.specs.WorkedTraces.{f, j, a, r, w, opposite_orders, gate_lock, later_instance, swapped_sections, three_locks, read_without_writer, forked_after, joined_before}
use Rattle.trace_model.specs.declared.traces.event.Op.TheVariants.{Fork, Join, Acquire, Release, Read, Write}
use Rattle.trace_model.specs.Theory.Reordering.{AreReached}
use Rattle.trace_model.specs.declared.messages.session.Reply.TheVariants.{Opened, Pending, Refused, Report}
use Rattle.trace_model.specs.declared.refusal.Refusal.TheVariants.{BadBound, NoSuchQuestion, NoSuchTask, Double, OtherBound, OtherTrace}
use Rattle.trace_model.specs.Protocol.Machine.{State, ask, deliver, answer}
use Rattle.trace_model.proofs.Theory.Ascending.{listed_contains}
use Rattle.trace_model.proofs.Theory.Existence.{reordering_closes, reaching_holds}
use Rattle.trace_model.proofs.Theory.Computed.{reached_if}

abbrev dep : ℕ → ℕ → List ℕ → Dependency
dep t l ks = record { thread = t; lock = l; held = ks }

opposite_orders-dependencies : dependencies opposite_orders ≡ dep 1 20 (10 ∷ []) ∷ dep 2 10 (20 ∷ []) ∷ []
opposite_orders-dependencies = refl

gate_lock-dependencies : dependencies gate_lock ≡ dep 1 10 (5 ∷ []) ∷ dep 1 20 (5 ∷ 10 ∷ []) ∷ dep 2 20 (5 ∷ []) ∷ dep 2 10 (5 ∷ 20 ∷ []) ∷ []
gate_lock-dependencies = refl

later_instance-writer : writer later_instance 7 ≡ Some 6
later_instance-writer = refl

later_instance-releases : map (release later_instance) (2 ∷ 8 ∷ 13 ∷ 0 ∷ 99 ∷ []) ≡ Some 5 ∷ Some 11 ∷ None ∷ None ∷ None ∷ []
later_instance-releases = refl

-- the first events of the row of refusals
abbrev each_refusal : Trace
each_refusal = f 0 1 ∷ f 0 2 ∷ a 1 10 ∷ j 0 2 ∷ []

refusals-at_two : map (refusal_of 1048576 (take 2 each_refusal)) (r 1 10 ∷ a 1 10 ∷ []) ≡ Some NotHeld ∷ None ∷ []
refusals-at_two = refl

refusals-at_three : map (refusal_of 1048576 (take 3 each_refusal)) (a 2 10 ∷ a 1 10 ∷ j 0 0 ∷ j 1 0 ∷ a 3 1 ∷ f 0 1 ∷ f 0 0 ∷ j 0 2 ∷ [])
    ≡ Some HeldByOther ∷ None ∷ Some JoinsItself ∷ Some JoinUnknown ∷ Some Unforked ∷ Some AlreadyForked ∷ Some AlreadyForked ∷ None ∷ []
refusals-at_three = refl

refusals-at_four : map (refusal_of 1048576 each_refusal) (j 1 2 ∷ w 2 1 ∷ j 0 9 ∷ r 1 10 ∷ []) ≡ Some JoinedTwice ∷ Some Ended ∷ Some JoinUnknown ∷ None ∷ []
refusals-at_four = refl

refusals-full : refusal_of 3 (w 0 1 ∷ w 0 1 ∷ w 0 1 ∷ []) (w 9 1) ≡ Some Full
refusals-full = refl

opposite_orders-reached : AreReached opposite_orders (3 ∷ 7 ∷ [])
opposite_orders-reached = reached_if opposite_orders (3 ∷ 7 ∷ []) (0 ∷ 1 ∷ 2 ∷ 6 ∷ []) refl

later_instance-reached : AreReached later_instance (13 ∷ 9 ∷ [])
later_instance-reached = reached_if later_instance (13 ∷ 9 ∷ []) (0 ∷ 1 ∷ 2 ∷ 3 ∷ 4 ∷ 5 ∷ 6 ∷ 7 ∷ 8 ∷ 12 ∷ []) refl

three_locks-reached : AreReached three_locks (4 ∷ 8 ∷ 12 ∷ [])
three_locks-reached = reached_if three_locks (4 ∷ 8 ∷ 12 ∷ []) (0 ∷ 1 ∷ 2 ∷ 3 ∷ 7 ∷ 11 ∷ []) refl

read_without_writer-reached : AreReached read_without_writer (5 ∷ 9 ∷ [])
read_without_writer-reached = reached_if read_without_writer (5 ∷ 9 ∷ []) (0 ∷ 1 ∷ 2 ∷ 3 ∷ 4 ∷ 8 ∷ []) refl

-- the write that the read needs comes after the place
read_needs_earlier_section : AreReached later_instance (3 ∷ 9 ∷ []) → ⊥
read_needs_earlier_section (order, o, e) =
    let c = reordering_closes later_instance order o in
    let seven = reaching_holds later_instance order (3 ∷ 9 ∷ []) e 9 7 (1, omega arith, refl) (2, (Read 7, refl), (Acquire 10, refl), omega arith) in
    let six = c.writers 6 7 seven refl in
    let three = c.threads 3 6 six (1, (Acquire 20, refl), (Write 7, refl), omega arith) in
    (e 3 (0, omega arith, refl)).0 (listed_contains order 3 three)

-- the closure contains both sections of lock 30, so it contains the first release, which is after
-- the place
swapped_sections-not_found : AreReached swapped_sections (4 ∷ 11 ∷ []) → ⊥
swapped_sections-not_found (order, o, e) =
    let c = reordering_closes swapped_sections order o in
    let h = reaching_holds swapped_sections order (4 ∷ 11 ∷ []) e in
    let two = h 4 2 (0, omega arith, refl) (1, (Acquire 30, refl), (Acquire 20, refl), omega arith) in
    let eight = h 11 8 (1, omega arith, refl) (2, (Acquire 30, refl), (Acquire 10, refl), omega arith) in
    let seven = c.sections 2 8 7 30 (omega arith) (1, (refl, refl)) (2, (refl, refl)) two eight refl in
    let four = c.threads 4 7 seven (1, (Acquire 20, refl), (Release 30, refl), omega arith) in
    (e 4 (0, omega arith, refl)).0 (listed_contains order 4 four)

-- the fork is after the place
fork_orders_the_threads : AreReached forked_after (1 ∷ 6 ∷ []) → ⊥
fork_orders_the_threads (order, o, e) =
    let c = reordering_closes forked_after order o in
    let five = reaching_holds forked_after order (1 ∷ 6 ∷ []) e 6 5 (1, omega arith, refl) (1, (Acquire 20, refl), (Acquire 10, refl), omega arith) in
    let four = c.forks_joins 4 5 five (inl (1, (Acquire 20, refl), (0, refl))) in
    let one = c.threads 1 4 four (0, (Acquire 20, refl), (Fork 1, refl), omega arith) in
    (e 1 (0, omega arith, refl)).0 (listed_contains order 1 one)

-- the join needs all places of the joined thread
join_orders_the_threads : AreReached joined_before (2 ∷ 7 ∷ []) → ⊥
join_orders_the_threads (order, o, e) =
    let c = reordering_closes joined_before order o in
    let five = reaching_holds joined_before order (2 ∷ 7 ∷ []) e 7 5 (1, omega arith, refl) (0, (Join 1, refl), (Acquire 20, refl), omega arith) in
    let two = c.forks_joins 2 5 five (inr (1, (0, refl), inr (Acquire 10, refl))) in
    (e 2 (0, omega arith, refl)).0 (listed_contains order 2 two)

abbrev after_six : State
after_six = record { limit = 1048576; accepted = take 6 opposite_orders; questions = [] }

abbrev asked : State
asked = (ask after_six 2).1

question-opened : (ask after_six 2).0 ≡ Opened 0 6 1
question-opened = refl

question-keeps_its_length : answer (λ s q k. []) (record asked { accepted = opposite_orders }) 0 ≡ Pending 0 0 1
question-keeps_its_length = refl

question_bounds : map (λ k. (ask after_six k).0) (1 ∷ 9 ∷ 2 ∷ 8 ∷ []) ≡ Refused BadBound ∷ Refused BadBound ∷ Opened 0 6 1 ∷ Opened 0 6 1 ∷ []
question_bounds = refl

-- made again, past the total, with another bound, of another trace, of another question
findings-refused : let s = (deliver asked 0 2 (take 6 opposite_orders) 0 []).1 in
    (deliver s 0 2 (take 6 opposite_orders) 0 []).0 ∷ (deliver s 0 2 (take 6 opposite_orders) 2 []).0
    ∷ (deliver s 0 3 (take 6 opposite_orders) 0 []).0 ∷ (deliver s 0 2 (take 5 opposite_orders) 0 []).0
    ∷ (deliver s 1 2 (take 6 opposite_orders) 0 []).0 ∷ []
    ≡ Some Double ∷ Some NoSuchTask ∷ Some OtherBound ∷ Some OtherTrace ∷ Some NoSuchQuestion ∷ []
findings-refused = refl

findings-answered : answer (λ s q k. 7 ∷ []) (deliver asked 0 2 (take 6 opposite_orders) 0 []).1 0 ≡ Report 0 (7 ∷ [])
findings-answered = refl
