use Rattle.std.proofs.Common.{◌≡◌, ◌≤◌, ◌+◌, Some, None, MatchOption, rules, sym, subst, ◌∙◌, arith}
use Rattle.trace_model.specs.Theory.Lookups.{release}
use Rattle.trace_model.proofs.Theory.Lookups.{release_so}
use Rattle.fronts.specs.Requirements.{empty_prefix, IsPrefixThrough}
use Rattle.fronts.specs.Firsts.{thread_slot_at}
use Rattle.fronts.proofs.FirstLemmas.{thread_slots}
use Rattle.fronts.proofs.SlotLemmas.{number_of, number_within}
use Rattle.fronts.proofs.requirements.section_at.Goals.{in-Some, in-None}
use Rattle.fronts.proofs.requirements.section_at.Goals as goal

pub unwrap-requires : goal.unwrap-requires
unwrap-requires c =
    let s = c.args.index.now.events in
    let r = c.in-Some.release in
    let (t, l, begins, least) = release_so s c.args.place r (sym c.release_of.ensures ∙ c.in-Some.is) in
    rw (c.number.ensures, number_of s r t (_, least.1.0)) (search rules)

pub overflow_add-end : goal.overflow_add-end
overflow_add-end c =
    let s = c.args.index.now.events in
    let less = number_within s c.in-Some.release c.unwrap.result (sym c.number.ensures ∙ search rules) in
    let small : c.unwrap.result + 1 ≤ 1048576 = omega (arith, less, c.len-len.ensures.short) in
    search rules

pub returns-clause-end : goal.returns-clause-end
returns-clause-end c =
    let s = c.args.index.now.events in
    let p = c.args.place in
    let end = c.match-release_of.end in
    elim c.match-release_of.branch [
      | in-Some w ↦
          let r = w.in-Some.release in
          let is : release s p ≡ Some r = sym c.release_of.ensures ∙ w.in-Some.is in
          let (t, l, begins, least) = release_so s p r is in
          let slot = (thread_slots s).alike p r c.args.slot t c.requires.slot (_, begins.0) (_, least.1.0) in
          subst (λ o. MatchOption o (end ≡ empty_prefix) (IsPrefixThrough s (thread_slot_at s) end)) (sym is)
          (subst (λ z. IsPrefixThrough s (thread_slot_at s) z r) (sym w.end-is)
          (w.unwrap.result, record { slot = slot; number = sym w.number.ensures ∙ search rules }, omega arith))
      | in-None w ↦
          let is : release s p ≡ None = sym c.release_of.ensures ∙ w.in-None.is in
          subst (λ o. MatchOption o (end ≡ empty_prefix) (IsPrefixThrough s (thread_slot_at s) end)) (sym is) w.end-is
    ]
