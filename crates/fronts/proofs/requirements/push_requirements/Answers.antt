use Rattle.std.proofs.Common.{length, arith}
use Rattle.std.proofs.lemmas.Result.{IfOk-from_err, on_ok_weaker}
use Rattle.fronts.specs.Pushing.{trace_with_slots}
use Rattle.fronts.proofs.FirstLemmas.{some_within, thread_slots}
use Rattle.fronts.proofs.PushLemmas.{need_before, reach_added, requirements_from}
use Rattle.fronts.proofs.requirements.push_requirements.Goals as goal

pub push_reach-requires-clause-listed : goal.push_reach-requires-clause-listed
push_reach-requires-clause-listed c =
    let s = c.args.index.now.events in
    some_within c.start_of-start.result (length c.args.positions.now) (λ r h. omega (arith, c.requires.next, need_before s c.len-len.ensures.well_formed c.args.place r (c.start_of-start.ensures.true_need r h)))

pub push_reach-requires-2-clause-listed : goal.push_reach-requires-2-clause-listed
push_reach-requires-2-clause-listed c =
    let s = c.args.index.now.events in
    some_within c.first_need-first.result (length c.args.positions.now) (λ r h. omega (arith, c.requires.next, need_before s c.len-len.ensures.well_formed c.args.place r (c.first_need-first.ensures.true_need r h)))

pub push_reach-requires-3-clause-listed : goal.push_reach-requires-3-clause-listed
push_reach-requires-3-clause-listed c =
    let s = c.args.index.now.events in
    some_within c.last_need-last.result (length c.args.positions.now) (λ r h. omega (arith, c.requires.next, need_before s c.len-len.ensures.well_formed c.args.place r (c.last_need-last.ensures.true_need r h)))

pub returns-in_err-push_reach : goal.returns-in_err-push_reach
returns-in_err-push_reach c = IfOk-from_err c.from_residual.result _ c.from_residual.ensures.0

pub returns-in_err-push_reach-2 : goal.returns-in_err-push_reach-2
returns-in_err-push_reach-2 c = IfOk-from_err c.from_residual-in_err-push_reach-2.result _ c.from_residual-in_err-push_reach-2.ensures.0

pub returns-in_err-push_reach-3 : goal.returns-in_err-push_reach-3
returns-in_err-push_reach-3 c = IfOk-from_err c.from_residual-in_err-push_reach-3.result _ c.from_residual-in_err-push_reach-3.ensures.0

pub returns : goal.returns
returns c =
    let s = c.args.index.now.events in
    let v = trace_with_slots s in
    let q = c.args.place in
    let here = c.args.position in
    let slots = thread_slots s in
    let a = c.start_of-start.result in
    let b = c.first_need-first.result in
    let d = c.last_need-last.result in
    let at_start = reach_added v _ q a here _ _ slots c.requires.position c.start_of-start.ensures.true_need c.in_ok-push_reach.ensures in
    let at_first = reach_added v _ q b here _ _ slots c.requires.position c.first_need-first.ensures.true_need c.in_ok-push_reach-2.ensures in
    let at_last = reach_added v _ q d here _ _ slots c.requires.position c.last_need-last.ensures.true_need c.in_ok-push_reach-3.ensures in
    on_ok_weaker c.push_requirement.result
    (requirements_from v q here.count a b d c.begin_of-begin.result c.args.items.now.items _ _ _ _ c.requires.position.number
    c.start_of-start.ensures c.first_need-first.ensures c.last_need-last.ensures c.begin_of-begin.ensures at_start at_first at_last) c.push_requirement.ensures
