use Rattle.std.proofs.Common.{◌≡◌, inl, inr, length, get_or, subst, ap, arith}
use Rattle.std.proofs.lemmas.Bool.{cases_lt}
use Rattle.std.proofs.lemmas.Option.{slice_get-get_or}
use Rattle.trace_model.proofs.Theory.Unique.{contains_had}
use Rattle.cycle_search.specs.CycleSearch.{CycleFrom}
use Rattle.cycle_search.proofs.absence.has_no_cycle.Goals as goal

pub loop-root-preserved : goal.loop-root-preserved
loop-root-preserved c root numbers l cycle = elim (cases_lt root c.loop-root.root) [
  | inl before ↦ c.loop-root.invariant root numbers before cycle
  | inr after ↦
      let last : root ≡ c.loop-root.root = omega (arith, l, after) in
      c.begins_no_cycle.ensures c.if-not-begins_no_cycle.false numbers (subst (λ r. CycleFrom c.args.search_input.now c.args.bound r numbers) last cycle)
]

pub returns : goal.returns
returns c t numbers cycle =
    let root = get_or numbers 0 0 in
    let at = slice_get-get_or numbers 0 0 (omega (arith, cycle.at_least_two)) in
    let known = cycle.known root (contains_had numbers root (0, at)) in
    let all = ap length c.search_input.view_is in
    c.loop-root.invariant root numbers (omega (arith, known, all, c.len-root-end.ensures.value, c.loop-root-test.false)) (cycle, at)
