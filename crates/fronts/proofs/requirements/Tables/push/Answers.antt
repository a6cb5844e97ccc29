use Rattle.std.proofs.Common.{◌≡◌, ◌+◌, ◌≤◌, Some, length, rules, ap, sym, subst, ◌∙◌, arith}
use Rattle.segments.proofs.Counting.{count_max}
use Rattle.fronts.specs.declared.requirements.ThreadPrefix.{ThreadPrefix}
use Rattle.fronts.specs.Slots.{HasSlotPosition}
use Rattle.fronts.specs.Firsts.{first_of_thread, first_of_lock, is_first, thread_slot_at, lock_slot_at, threads_below, locks_below, slot_count_after}
use Rattle.fronts.specs.Pushing.{trace_with_slots, AreAllBuilt}
use Rattle.fronts.proofs.BuildLemmas.{each_pushed, length_pushed}
use Rattle.fronts.proofs.FirstLemmas.{locks_after}
use Rattle.fronts.proofs.requirements.Tables.push.Goals as goal

pub overflow_cast-count : goal.overflow_cast-count
overflow_cast-count c =
    let s = c.args.index.now.events in
    let few : c.len-count.result ≤ 1048576 = omega (arith, c.len-count.ensures, c.requires.tables.thread_count, count_max (is_first (first_of_thread s)) c.args.place, c.requires.within, c.len-len.ensures.short) in
    search rules

pub lock_slot-lock-requires-clause-few : goal.lock_slot-lock-requires-clause-few
lock_slot-lock-requires-clause-few c =
    let s = c.args.index.now.events in
    omega (arith, c.requires.tables.lock_count, count_max (is_first (first_of_lock s)) c.args.place, c.requires.within, c.len-len.ensures.short)

pub next_count-self-requires : goal.next_count-self-requires
next_count-self-requires c =
    let s = c.args.index.now.events in
    omega (arith, c.requires.tables.lock_count, count_max (is_first (first_of_lock s)) c.args.place, c.requires.within, c.len-len.ensures.short)

pub returns : goal.returns
returns c =
    let s = c.args.index.now.events in
    let p = c.args.place in
    let old = c.args.self.now in
    let is = c.requires.tables in
    let lock = c.lock_slot-lock.result in
    let position : ThreadPrefix = record { slot = c.thread_slot-slot.result; count = c.facts_at-facts.result.number } in
    let listed : length c.as_slice.result.now ≡ p = ap length c.as_slice.ensures.value ∙ is.positions_length in
    let locked : length c.as_slice-2.result.now ≡ p = ap length c.as_slice-2.ensures.value ∙ is.locks_length in
    let slot_is : thread_slot_at s p ≡ Some position.slot = subst (λ z. thread_slot_at s z ≡ Some position.slot) listed c.thread_slot-slot.ensures in
    let lock_is : lock_slot_at s p ≡ lock = subst (λ z. lock_slot_at s z ≡ lock) locked c.lock_slot-lock.ensures in
    let pushed = c.push_reserved.ensures.items in
    let lock_pushed = c.push_reserved-2.ensures.items in
    record {
      positions = each_pushed (λ q (to : ThreadPrefix). HasSlotPosition s (thread_slot_at s) q to.slot to.count) old.positions.items _ p position pushed is.positions_length is.positions
          (record { slot = slot_is; number = c.facts_at-facts.ensures.number });
      positions_length = length_pushed old.positions.items _ p position pushed is.positions_length;
      positions_room = subst (λ z. length s ≤ z) (sym c.push_reserved.ensures.capacity) is.positions_room;
      locks = each_pushed (λ q slot. lock_slot_at s q ≡ slot) old.locks.items _ p lock lock_pushed is.locks_length is.locks lock_is;
      locks_length = length_pushed old.locks.items _ p lock lock_pushed is.locks_length;
      locks_room = subst (λ z. length s ≤ z) (sym c.push_reserved-2.ensures.capacity) is.locks_room;
      lock_count = c.next_count-self.ensures ∙ (ap (slot_count_after lock) is.lock_count ∙ (ap (λ z. slot_count_after z (locks_below s p)) (sym lock_is) ∙ sym (locks_after s p)));
      thread_count = subst (λ z. length c.fill_place.new.lists.items ≡ threads_below s (z + 1)) c.new.ensures c.fill_place.ensures.count;
      built = subst (λ z. AreAllBuilt (trace_with_slots s) (z + 1) c.fill_place.new.lists.items) c.new.ensures c.in_ok-fill_place.ensures.built;
    }
