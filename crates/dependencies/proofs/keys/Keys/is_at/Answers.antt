use Rattle.std.proofs.Common.{◌≡◌, ◌∙◌, position, Some, sym, ap, subst}
use Rattle.std.specs.Option.{option_copied}
use Rattle.trace_model.specs.Theory.Dependencies.{same_dependency}
use Rattle.trace_model.proofs.Theory.Dependencies.{same_dependency_so}
use Rattle.dependencies.proofs.Shown.{position_of}
use Rattle.dependencies.proofs.keys.Keys.is_at.Goals as goal

pub returns-in-Some-clause-first : goal.returns-in-Some-clause-first
returns-in-Some-clause-first c is =
    let same = same_dependency_so c.args.dependency.now c.in-Some.known.now (sym c.eq.ensures ∙ is) in
    let at = sym c.item.ensures ∙ ap option_copied c.in-Some.is in
    subst (λ ks. position (same_dependency c.args.dependency.now) ks ≡ Some c.args.number) (ap (λ l. l.keys) c.self.view_is)
    (position_of c.args.dependency.now c.self.inside.list.0 c.args.number c.self.invariant.once (at ∙ ap Some (sym same)))
