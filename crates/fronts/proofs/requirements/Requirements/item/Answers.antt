use Rattle.std.proofs.Common.{◌≡◌, Vec, slice_get, Some, None, sym, ap, subst, ◌∙◌}
use Rattle.std.specs.Global.{Global}
use Rattle.std.specs.Option.{option_and_then}
use Rattle.fronts.specs.declared.requirements.Item.{Item}
use Rattle.fronts.proofs.FrontLemmas.{lent, not_lent}
use Rattle.fronts.proofs.requirements.Requirements.item.Goals as goal

pub returns-in-Some : goal.returns-in-Some
returns-in-Some c =
    let j = c.args.j in
    let list = c.in-Some.items in
    let at = subst (λ xs. slice_get xs c.args.slot ≡ Some list.now) c.deref.ensures.value (lent c.deref.result.now c.args.slot list c.in-Some.ensures.lookup) in
    record {
      item = c.listed.ensures.item ∙ (ap (λ xs. slice_get xs j) c.as_slice.ensures.value ∙ sym (ap (option_and_then (λ (xs : Vec Item Global). slice_get xs.items j)) at));
      few = c.listed.ensures.few;
    }

pub returns-in-None : goal.returns-in-None
returns-in-None c =
    let none = subst (λ xs. slice_get xs c.args.slot ≡ None) c.deref.ensures.value (not_lent c.deref.result.now c.args.slot c.in-None.ensures.lookup) in
    record {
      item = sym (ap (option_and_then (λ (xs : Vec Item Global). slice_get xs.items c.args.j)) none);
      few = tt;
    }
