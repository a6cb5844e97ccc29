use Rattle.std.proofs.Common.{◌≡◌, ◌<◌, inl, inr, sym, ap, ◌∙◌, arith}
use Rattle.std.proofs.lemmas.Bool.{cases_lt, false≢true}
use Rattle.fronts.specs.State.{included_set}
use Rattle.fronts.proofs.PlaceLemmas.{at_end, ascending_cut, next_range}
use Rattle.fronts.proofs.fronts.Fronts.range_from.Goals as goal

pub returns-then-start-self : goal.returns-then-start-self
returns-then-start-self c =
    let f = c.args.self.now in
    let start = c.next-start.result in
    let end = c.next.result in
    let less : start < f.end = c.if-start-self.true in
    let some : start < end = elim (cases_lt start end) [
      | inl l ↦ l
      | inr l ↦
          let e : end ≡ start = omega (arith, l, c.next.ensures.later) in
          absurd (false≢true (sym (c.next.ensures.first (omega (arith, e, less))) ∙ ap (included_set f) e ∙ c.next-start.ensures.first less))
    ] in
    next_range f c.args.at start end c.next-start.ensures.later some (c.next.ensures.within (omega (arith, less)))
    c.next-start.ensures.before c.next.ensures.before

pub returns-else-start-self : goal.returns-else-start-self
returns-else-start-self c =
    let f = c.args.self.now in
    let start = c.next-start.result in
    let over = c.if-start-self.false in
    sym (at_end f start (omega (arith, over))) ∙ ascending_cut (included_set f) c.args.at start c.next-start.ensures.later c.next-start.ensures.before
