use Rattle.std.proofs.Common.{◌≡◌, ◌+◌, ◌∙◌, IfSome, arith}
use Rattle.fronts.specs.State.{size_in}
use Rattle.sp_closure.specs.Scratches.{upper_total}
use Rattle.sp_closure.proofs.BaseLemmas.{on_ok_map, if_some_map, counted_all}
use Rattle.sp_closure.proofs.scratch.least_instance.Goals as goal

pub returns-clause-counted : goal.returns-clause-counted
returns-clause-counted g c =
    let s = c.args.index.now.events in
    let old = c.in_ok-scratch.scratch in
    let d = c.in_ok-requirements.requirements in
    let all = upper_total d c.least.new.self in
    let after = c.least.new.steps in
    let before = c.args.steps.now in
    on_ok_map c.least.result (λ answer. IfSome answer (λ found. size_in s found.1 ≡ all)) (λ answer. IfSome answer (λ found. after ≡ before + size_in s found.1))
    (λ answer each size. if_some_map answer (λ found. size_in s found.1 ≡ all) (λ found. after ≡ before + size_in s found.1)
    (λ found e. counted_all s d old c.args.cycle.now before after all c.in_ok-scratch.ensures.empty each ∙ omega (arith, e)) size)
    c.least.ensures.counted c.least.ensures.size
