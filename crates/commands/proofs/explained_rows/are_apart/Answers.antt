use Rattle.std.proofs.Common.{◌∙◌, ℕ, sym, ap, subst}
use Rattle.std.specs.List.{Contains}
use Rattle.trace_model.specs.Theory.Dependencies.{Dependency}
use Rattle.commands.proofs.RowTests.{apart_iff}
use Rattle.commands.proofs.explained_rows.are_apart.Goals as goal

pub returns : goal.returns
returns c =
    let one = c.first.view_is in
    let two = c.second.view_is in
    let thread : Dependency → ℕ = λ d. d.thread in
    let lock : Dependency → ℕ = λ d. d.lock in
    apart_iff c.args.first.now c.args.second.now c.is_disjoint.result
    (λ same. c.if-first-second.false (ap thread one ∙ same ∙ sym (ap thread two))) (λ same. c.if-first-second-2.false (ap lock one ∙ same ∙ sym (ap lock two))) (
      λ t l x y. c.is_disjoint.ensures.0 t l (subst (λ (d : Dependency). Contains d.held l) (sym one) x) (subst (λ (d : Dependency). Contains d.held l) (sym two) y),
      λ apart. c.is_disjoint.ensures.1 (λ l x y. apart l (subst (λ (d : Dependency). Contains d.held l) one x) (subst (λ (d : Dependency). Contains d.held l) two y)),
    )
