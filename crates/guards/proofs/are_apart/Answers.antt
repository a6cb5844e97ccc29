use Rattle.std.proofs.Common.{◌↔◌, IsTrue, subst}
use Rattle.trace_model.specs.Theory.Dependencies.{Dependency}
use Rattle.guards.specs.Compatible.{AreApart}
use Rattle.guards.proofs.are_apart.Goals as goal

pub returns-then-first-second : goal.returns-then-first-second
returns-then-first-second c =
    let a : Dependency = record { thread = c.first.inside.thread; lock = c.first.inside.lock; held = c.first.inside.held } in
    subst (λ x. IsTrue c.is_disjoint.result ↔ AreApart x c.args.second.now) c.first.view_is
    (subst (λ y. IsTrue c.is_disjoint.result ↔ AreApart a y) c.second.view_is
    ((λ t. (c.if-first-second.true, c.is_disjoint.ensures.0 t)), (λ h. c.is_disjoint.ensures.1 h.1)))
