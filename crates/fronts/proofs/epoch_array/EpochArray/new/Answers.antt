use Rattle.std.proofs.Common.{◌≡◌, replicate, slice_get, Some, subst, arith}
use Rattle.std.proofs.lemmas.Result.{IfOk-from_err}
use Rattle.fronts.proofs.EpochLemmas.{all_zero, none_stamped}
use Rattle.fronts.proofs.epoch_array.EpochArray.new.Goals as goal

pub returns : goal.returns
returns g c =
    let epochs = c.in_ok-epochs.epochs.items in
    let zeros : epochs ≡ replicate c.args.count 0 = c.in_ok-epochs.ensures.items_if_clones_equal (λ y h. h) in
    record {
      none = none_stamped c.in_ok-values.values.items epochs (λ e x at. all_zero c.args.count e x (subst (λ z. slice_get z e ≡ Some x) zeros at));
      size = omega (arith, c.in_ok-epochs.epochs.ok, c.in_ok-epochs.ensures.len);
    }

pub invariant_of-result : goal.invariant_of-result
invariant_of-result g c =
    let epochs = c.in_ok-epochs.epochs.items in
    let zeros : epochs ≡ replicate c.args.count 0 = c.in_ok-epochs.ensures.items_if_clones_equal (λ y h. h) in
    record {
      same_length = omega (arith, c.in_ok-epochs.epochs.ok, c.in_ok-values.values.ok, c.in_ok-epochs.ensures.len, c.in_ok-values.ensures.len);
      bounded = λ e x at. omega (arith, all_zero c.args.count e x (subst (λ z. slice_get z e ≡ Some x) zeros at));
    }

pub returns-in_err-epochs : goal.returns-in_err-epochs
returns-in_err-epochs g c = IfOk-from_err c.from_residual.result _ c.from_residual.ensures.0

pub returns-in_err-values : goal.returns-in_err-values
returns-in_err-values g c = IfOk-from_err c.from_residual-in_err-values.result _ c.from_residual-in_err-values.ensures.0
