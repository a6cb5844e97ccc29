use Rattle.std.proofs.Common.{◌≡◌, sym, subst, ◌∙◌}
use Rattle.std.proofs.lemmas.Option.{same_Some}
use Rattle.explain.specs.declared.search.DerivationSearch.{DerivationSearch}
use Rattle.explain.specs.DerivationSearch.{IsIn, Postpones}
use Rattle.explain.proofs.Postponing.{postponed}
use Rattle.explain.proofs.search.DerivationSearch.postpone.Goals as goal

pub returns-clause-postponed : goal.returns-clause-postponed
returns-clause-postponed c s places n some is here =
    let x = c.args.self.now in
    let range = c.args.range.now in
    let z : DerivationSearch = record x { ranges = c.push.new.self } in
    let same : c.in-Some.place ≡ n = same_Some c.in-Some.place n (sym c.in-Some.is ∙ some) in
    subst (λ m. Postpones s places x range m z) same
    (postponed s places x range c.in-Some.place _ z c.in_ok-push.ensures.items is
    (subst (λ m. IsIn s places x (record { last = m; reason = range.prefix.reason })) (sym same) here))
