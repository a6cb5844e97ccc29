use Rattle.std.proofs.Common.{ℕ, Result, IfOk, ap, subst}
use Rattle.std.specs.Global.{Vec}
use Rattle.std.specs.List.{AllZip}
use Rattle.std.specs.declared.alloc.AllocError.{AllocError}
use Rattle.rayon.proofs.ListFacts.{AllZip-weaken}
use Rattle.offline_report.specs.Gathering.{AreTaken}
use Rattle.offline_report.specs.declared.gathering.Done.{Done}
use Rattle.offline_report.specs.declared.refused.OfflineRefused.{OfflineRefused}
use Rattle.offline_report.proofs.Gathered.{all_collected}
use Rattle.offline_report.proofs.gathering.take_all.Goals as goal

pub returns : goal.returns
returns g c =
    let h = c.in_ok-lists.ensures in
    let may_give = g.C.Computes.may_give in
    let chain = rw (c.map.ensures.base) at h.1 in
    let Are = λ (n : ℕ). λ (thread : ℕ) (list : Result (Result (Vec (Done g.row.C-Given.Denot)) OfflineRefused) AllocError). IfOk list (AreTaken may_give n) in
    let own = ap (λ f. f.1.now) c.map.ensures.f in
    let each = AllZip-weaken _ _ (λ thread list k. k) chain.0 h.0 chain.2 in
    all_collected AllocError (AreTaken may_give c.args.tasks) chain.0 h.0 c.in_ok-lists.lists (subst (λ n. AllZip (Are n) chain.0 h.0) own each) h.2
