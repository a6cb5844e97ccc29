use Rattle.std.proofs.Common.{◌≡◌, ℕ, ◌<◌, inl, length, take, get_or, slice_get, Some, ap, sym, subst, ◌∙◌, arith}
use Rattle.std.proofs.lemmas.Option.{slice_get-get_or}
use Rattle.trace_model.specs.Theory.Trace.{Does}
use Rattle.std.proofs.lemmas.Result.{IfOk-from_err}
use Rattle.replay.specs.Verdict.{order_tests}
use Rattle.replay.proofs.FactLists.{no_event}
use Rattle.replay.proofs.Verdicts.{follows_so, passes_more}
use Rattle.replay.proofs.LastPlaces.{walked_next}
use Rattle.replay.proofs.checking.walk.Goals as goal

pub loop-k-init : goal.loop-k-init
loop-k-init c =
    record {
      passes = λ k q l e. absurd (omega arith);
      walked = c.requires.begins;
    }

pub returns-in-Some : goal.returns-in-Some
returns-in-Some c =
    let order = c.args.order.now in
    let k = c.loop-k.k in
    let p = c.index-order-k.result in
    inl (k, slice_get-get_or order k p c.loop-k-test.true ∙ ap Some (sym c.index-order-k.is), c.loop-k.invariant.passes, c.in-Some.ensures)

pub begun-begun-requires-clause-in_trace : goal.begun-begun-requires-clause-in_trace
begun-begun-requires-clause-in_trace c =
    let order = c.args.order.now in
    (follows_so c.args.trace.now c.requires.well_formed (take c.loop-k.k order) c.index-order-k.result c.in_default.ensures).in_trace

pub loop-k-preserved : goal.loop-k-preserved
loop-k-preserved c =
    let s = c.args.trace.now in
    let order = c.args.order.now in
    let k = c.loop-k.k in
    let p = c.index-order-k.result in
    let at : slice_get order k ≡ Some p = slice_get-get_or order k p c.loop-k-test.true ∙ ap Some (sym c.index-order-k.is) in
    let fine = c.in_default.ensures in
    let within : p < length s = (follows_so s c.requires.well_formed (take k order) p fine).in_trace in
    let o = (get_or s c.get.result no_event).op in
    let does : Does s p o = subst (λ (q : ℕ). Does s p (get_or s q no_event).op) (sym c.get.ensures)
    ((get_or s p no_event).thread, slice_get-get_or s p no_event within) in
    let e = c.in_ok-push.ensures in
    record {
      passes = passes_more order_tests s (λ k. take k order) order k p c.loop-k.invariant.passes at fine;
      walked = walked_next s c.requires.well_formed order k p o c.begun-begun.result c.loop-k.walked c.push.new.self at c.loop-k.invariant.walked fine does (sym c.begun-begun.ensures) e.inside e.forks e.writes e.acquires;
    }

pub check_instance-requires-clause-passes : goal.check_instance-requires-clause-passes
check_instance-requires-clause-passes c k q l e = c.loop-k.invariant.passes k q (omega arith) e

pub returns-in_err-push : goal.returns-in_err-push
returns-in_err-push c = IfOk-from_err c.from_residual.result _ c.from_residual.ensures.0
