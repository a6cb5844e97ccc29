use Rattle.std.proofs.Common.{rules, ◌≡◌, ◌≤◌, ◌+◌, suc, slice_index_or, subst, arith}
use Rattle.std.proofs.lemmas.Option.{slice_get-get_or}
use Rattle.fronts.specs.declared.requirements.ThreadPrefix.{ThreadPrefix}
use Rattle.fronts.specs.Slots.{HasSlotPosition}
use Rattle.fronts.specs.Firsts.{thread_slot_at}
use Rattle.fronts.proofs.SlotLemmas.{number_within}
use Rattle.fronts.proofs.requirements.prefix_through.Goals as goal

pub overflow_add-result : goal.overflow_add-result
overflow_add-result c =
    let s = c.args.index.now.events in
    let p = c.get.result in
    let before : ThreadPrefix = slice_index_or c.args.positions.now p (record { slot = 0; count = 0 }) in
    let listed = slice_get-get_or c.args.positions.now p (record { slot = 0; count = 0 }) (omega (arith, c.requires.listed, c.get.ensures)) in
    let small : before.count + 1 ≤ 1048576 = omega (arith, number_within s p before.count (c.requires.positions p before listed).number, c.len-len.ensures.short) in
    search rules

pub returns : goal.returns
returns c =
    let s = c.args.index.now.events in
    let p = c.get.result in
    let before : ThreadPrefix = slice_index_or c.args.positions.now p (record { slot = 0; count = 0 }) in
    let listed = slice_get-get_or c.args.positions.now p (record { slot = 0; count = 0 }) (omega (arith, c.requires.listed, c.get.ensures)) in
    let next : before.count + 1 ≡ suc before.count = omega arith in
    (before.count, subst (λ z. HasSlotPosition s (thread_slot_at s) z before.slot before.count) c.get.ensures (c.requires.positions p before listed), next)
