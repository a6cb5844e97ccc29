use Rattle.std.proofs.Common.{◌≡◌, ◌+◌, ◌-◌, min, slice_get, Some, sym, ap, subst, ◌∙◌}
use Rattle.std.specs.Arc.{arc_value}
use Rattle.fronts.specs.Runs.{IsThreadRun}
use Rattle.fronts.specs.State.{IsSetRun, included_count}
use Rattle.fronts.proofs.PositionLemmas.{set_run}
use Rattle.fronts.proofs.fronts.Fronts.run_from.Goals as goal

pub returns : goal.returns
returns c =
    let f = c.args.self.now in
    let p = c.args.place in
    let run = c.in-Some.run' in
    let same : c.deref.result.now ≡ arc_value f.positions = c.deref.ensures in
    let at : slice_get (arc_value f.positions) p ≡ Some run.prefix = subst (λ xs. slice_get xs p ≡ Some run.prefix) same (subst (λ q. slice_get c.deref.result.now q ≡ Some run.prefix) c.new.ensures c.in-Some.ensures.0) in
    let is : IsThreadRun (arc_value f.positions) p run.end = subst (λ xs. IsThreadRun xs p run.end) same (subst (λ q. IsThreadRun c.deref.result.now q run.end) c.new.ensures c.in-Some.ensures.1) in
    let end : c.min-end.result ≡ min run.end f.end = c.min-end.ensures in
    let count : c.min.result ≡ min (included_count f run.prefix.slot - run.prefix.count) (min run.end f.end - p) =
    c.min.ensures ∙ ap (λ n. min n (c.min-end.result - p)) (c.saturating_sub-included.ensures ∙ ap (λ n. n - run.prefix.count) c.count.ensures) ∙ ap (λ e. min (included_count f run.prefix.slot - run.prefix.count) (e - p)) end in
    subst (λ e. IsSetRun f p (p + c.min.result) e) (sym end) (subst (λ n. IsSetRun f p (p + n) (min run.end f.end)) (sym count) (set_run f p run.end run.prefix c.requires at is))
