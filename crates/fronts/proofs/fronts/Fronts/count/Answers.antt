use Rattle.std.proofs.Common.{◌≡◌, slice_get, unwrap_or, Some, None, sym, ap, subst, ◌∙◌}
use Rattle.fronts.proofs.FrontLemmas.{lent, not_lent}
use Rattle.fronts.proofs.fronts.Fronts.count.Goals as goal

pub returns-in-Some : goal.returns-in-Some
returns-in-Some c =
    let front = c.in-Some.front in
    let at = subst (λ xs. slice_get xs c.args.slot ≡ Some front.now) c.deref.ensures.value (lent c.deref.result.now c.args.slot front c.in-Some.ensures.lookup) in
    c.count.ensures ∙ sym (ap (λ o. unwrap_or o 0) at)

pub returns-in-None : goal.returns-in-None
returns-in-None c =
    let none = subst (λ xs. slice_get xs c.args.slot ≡ None) c.deref.ensures.value (not_lent c.deref.result.now c.args.slot c.in-None.ensures.lookup) in
    sym (ap (λ o. unwrap_or o 0) none)
