use Rattle.std.proofs.Common.{ap, subst, ◌∙◌}
use Rattle.std.specs.List.{AllZip}
use Rattle.rayon.proofs.ListFacts.{AllZip-weaken}
use Rattle.trace_model.specs.Theory.Trace.{Trace}
use Rattle.commands.proofs.Refuted.{IsOneRefuted, collected}
use Rattle.commands.proofs.refuting.Refuter.refute_all.Goals as goal

pub returns : goal.returns
returns g c =
    let h = c.in_ok-collect.ensures in
    let chain = rw (c.map_init.ensures.base, c.with_min_len.ensures.base) at h.1 in
    let own = ap (λ f. f.0.now) c.map_init.ensures.f in
    let each = AllZip-weaken _ _ (λ row given k. k.2) chain.0 h.0 chain.2 in
    collected c.args.self.now c.args.rows.items chain.0 h.0 c.in_ok-collect.field-0 (chain.1 ∙ c.into_par_iter.ensures)
    (subst (λ (s : Trace). AllZip (IsOneRefuted s) chain.0 h.0) own each) h.2
