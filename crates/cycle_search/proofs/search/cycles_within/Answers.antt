use Rattle.std.proofs.Common.{◌≡◌, Err, ◌∙◌, sym, ap, subst, arith}
use Rattle.std.proofs.lemmas.Result.{err_from_is_err_and}
use Rattle.cycle_search.specs.declared.refused.SearchRefused.TheVariants.{TooMany}
use Rattle.cycle_search.specs.CycleSearch.{MoreThan, CycleFrom}
use Rattle.cycle_search.proofs.Keeping.{kept-all, kept-most, kept-too_many}
use Rattle.cycle_search.proofs.search.cycles_within.Goals as goal

pub returns-in_err-branch-clause-too_many : goal.returns-in_err-branch-clause-too_many
returns-in_err-branch-clause-too_many c e =
    let p = err_from_is_err_and c.from_residual-in_err-branch.result c.from_residual-in_err-branch.ensures.1 in
    let both = sym p.1 ∙ e in
    let same : p.0 ≡ TooMany = cc in
    subst (MoreThan (CycleFrom c.args.search_input.now c.args.bound c.args.root)) c.new-kept.ensures.most
    (kept-too_many c.args.search_input.now c.args.bound c.args.root c.new-kept.result c.collect_cycles.new.collector c.in_ok-collect_cycles.field-0
    c.new-kept.ensures.cycles c.in_ok-collect_cycles.ensures (c.in_err-branch.was ∙ ap Err (sym p.2 ∙ same)))

pub returns-clause-ok : goal.returns-clause-ok
returns-clause-ok c =
    kept-all c.args.search_input.now c.args.bound c.args.root c.new-kept.result c.collect_cycles.new.collector c.in_ok-collect_cycles.field-0
    c.new-kept.ensures.cycles c.in_ok-collect_cycles.ensures _ c.in_ok-branch.was

pub returns-clause-few : goal.returns-clause-few
returns-clause-few c =
    let same = kept-most c.args.search_input.now c.args.bound c.args.root c.new-kept.result c.collect_cycles.new.collector c.in_ok-collect_cycles.field-0
    c.new-kept.ensures.cycles c.in_ok-collect_cycles.ensures _ c.in_ok-branch.was in
    omega (arith, c.collect_cycles.new.collector.within, same, c.new-kept.ensures.most)
