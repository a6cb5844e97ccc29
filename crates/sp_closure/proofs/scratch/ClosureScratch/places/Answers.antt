use Rattle.std.proofs.Common.{◌<◌, length, get_or, sym, subst, ◌∙◌, arith}
use Rattle.std.proofs.lemmas.Option.{same_Some, slice_get-get_or}
use Rattle.std.proofs.lemmas.Result.{IfOk-from_err}
use Rattle.sp_closure.specs.Scratches.{IsBaseFor}
use Rattle.sp_closure.proofs.BaseLemmas.{total_most, on_ok, on_ok_map_unit}
use Rattle.sp_closure.proofs.OtherBases.{stays_kept}
use Rattle.sp_closure.proofs.scratch.ClosureScratch.places.Goals as goal

pub first_member-first-requires : goal.first_member-first-requires
first_member-first-requires g c =
    let xs = c.args.numbers.now in
    record {
      slots = c.requires.scratch.requirements.slots;
      one_trace = c.requires.one_trace;
      known = subst (λ ds. get_or xs 0 0 < length ds) (sym c.requires.one_trace.0) (c.requires.known 0 (get_or xs 0 0) (slice_get-get_or xs 0 0 c.requires.some));
    }

pub rebase-requires : goal.rebase-requires
rebase-requires g c =
    record {
      scratch = c.turn_to.ensures.scratch;
      one_trace = c.requires.one_trace;
      member = c.first_member-first.ensures.member;
      first = c.first_member-first.ensures.first;
    }

pub over_base-requires : goal.over_base-requires
over_base-requires g c =
    let xs = c.args.numbers.now in
    let new = c.rebase.new.self in
    let is = c.rebase.ensures.scratch in
    record {
      requirements = is.requirements;
      none = is.none;
      fronts = is.fits.fronts;
      base = λ m at.
          let same = same_Some (get_or xs 0 0) m (sym (slice_get-get_or xs 0 0 c.requires.some) ∙ at) in
          subst (λ n. IsBaseFor c.args.index.now.events c.args.requirements.now new.none n new.base.overlay) same c.in_ok-rebase.ensures.base;
      some = c.requires.some;
      room = is.room;
      one_trace = c.requires.one_trace;
      known = c.requires.known;
    }

pub returns-in_err-turn_to : goal.returns-in_err-turn_to
returns-in_err-turn_to g c = record {
  scratch = c.turn_to.ensures.scratch;
  least = IfOk-from_err c.from_residual.result _ c.from_residual.ensures.0;
  fronts = IfOk-from_err c.from_residual.result _ c.from_residual.ensures.0;
  at_most = omega arith;
  counted = IfOk-from_err c.from_residual.result _ c.from_residual.ensures.0;
}

pub returns-in_err-rebase : goal.returns-in_err-rebase
returns-in_err-rebase g c =
    let new = c.rebase.new.self in
    let is = c.rebase.ensures.scratch in
    let (k, keeps, e) = c.rebase.ensures.counted in
    let is_err = c.from_residual-in_err-rebase.ensures.0 in
    let result = c.from_residual-in_err-rebase.result in
    record {
      scratch = is;
      least = IfOk-from_err result _ is_err;
      fronts = IfOk-from_err result _ is_err;
      at_most = omega (arith, e, total_most c.args.index.now.events c.args.requirements.now new.none new.base is.requirements is.fits);
      counted = IfOk-from_err result _ is_err;
    }

pub returns : goal.returns
returns g c =
    let xs = c.args.numbers.now in
    let is = c.rebase.ensures.scratch in
    let over = c.over_base.ensures in
    let (k, stays, e) = c.rebase.ensures.counted in
    let keeps = stays_kept c.args.index.now.events c.args.requirements.now c.args.self.now c.turn_to.new.self (get_or xs 0 0) k c.turn_to.ensures.has stays in
    record {
      scratch = record { requirements = is.requirements; none = is.none; fits = is.fits; base = is.base; others = is.others; room = over.room };
      least = over.least;
      fronts = on_ok c.over_base.result over.fronts;
      at_most = omega (arith, e, over.at_most);
      counted = on_ok_map_unit c.over_base.result over.counted
          (λ f. (k, (get_or xs 0 0, slice_get-get_or xs 0 0 c.requires.some, keeps), omega (arith, e, f)));
    }
