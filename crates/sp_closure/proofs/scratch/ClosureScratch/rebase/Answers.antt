use Rattle.std.proofs.Common.{sym, subst}
use Rattle.std.specs.List.{Contains}
use Rattle.dependencies.proofs.Follow.{tables_number}
use Rattle.fronts.specs.Slots.{slots_of}
use Rattle.sp_closure.proofs.BaseLemmas.{on_ok_map_unit}
use Rattle.fronts.proofs.SlotLemmas.{has_before}
use Rattle.fronts.proofs.MemberLemmas.{holds_upto}
use Rattle.sp_closure.proofs.scratch.ClosureScratch.rebase.Goals as goal

pub base_on-requires-clause-reach : goal.base_on-requires-clause-reach
base_on-requires-clause-reach g c =
    let d = c.args.requirements.now in
    let m = c.args.first.now in
    has_before c.args.index.now.events (slots_of d.threads) d.threads.count m.place m.slot m.number
    c.requires.scratch.requirements.slots c.requires.member.is_member.positions

pub returns-clause-base : goal.returns-clause-base
returns-clause-base g c =
    let s = c.args.index.now.events in
    let d = c.args.requirements.now in
    let m = c.args.first.now in
    let first = c.requires.member in
    on_ok_map_unit c.base_on.result c.base_on.ensures.base (λ base. record {
      consistent = base.consistent;
      least = λ set q closed number stop.
          let listed = ((tables_number c.args.table.now s c.requires.one_trace).1 c.args.number q).1 number in
          base.least set closed
          (holds_upto s (slots_of d.threads) d.threads.count set m q c.requires.scratch.requirements.slots first.is_member
          (subst (λ ps. Contains ps q) (sym first.places) listed) stop (first.first q listed));
    })
