use Rattle.std.proofs.Common.{◌≡◌, ◌+◌, ◌<◌, ◌^◌, Some, sym, subst, ◌∙◌, arith}
use Rattle.std.proofs.lemmas.Option.{none-some}
use Rattle.fronts.specs.Context.{items}
use Rattle.fronts.proofs.propagation.Propagation.next_item.Goals as goal

pub returns-then-item-front : goal.returns-then-item-front
returns-then-item-front c =
    let item = c.in-Some.item in
    let at = subst (λ j. items c.args.context.now c.args.slot j ≡ Some item) c.done-done.ensures (sym c.item.ensures.item ∙ c.in-Some.is) in
    record {
      next = (at, omega (arith, c.if-item-front.true, c.count-front.ensures, c.front.ensures), subst (λ j. j + 1 < 2 ^ 64) c.done-done.ensures c.in-Some.ensures.few);
      none = λ is. absurd (none-some item (sym is));
    }
