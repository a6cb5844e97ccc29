use Rattle.std.proofs.Common.{◌≡◌, ◌+◌, ◌++◌, ◌∷◌, [], suc, take, slice_get, Some, refl, sym, ap, subst, ◌∙◌, arith}
use Rattle.std.specs.List.{IsDistinct}
use Rattle.dependencies.specs.Keys.{AreListed}
use Rattle.indexmap.proofs.MapLemmas.{distinct-take}
use Rattle.trace_model.specs.Theory.Dependencies.{same_dependency}
use Rattle.trace_model.proofs.Lists.{take_next}
use Rattle.std.proofs.lemmas.Result.{IfOk-from_err}
use Rattle.dependencies.proofs.Shown.{dependencies_are}
use Rattle.dependencies.proofs.keys.Keys.share.Goals as goal

pub loop-number-preserved : goal.loop-number-preserved
loop-number-preserved c =
    let next : suc c.loop-number.number ≡ c.loop-number.number + 1 = omega arith in
    let at : slice_get c.args.self.now.keys c.loop-number.number ≡ Some c.copied.result = c.get.ensures ∙ ap Some (sym c.copied.ensures) in
    c.put.ensures ∙ ap (λ ks. ks ++ c.copied.result ∷ []) (c.in_ok-reserve.ensures.shown ∙ c.loop-number.invariant)
    ∙ sym (take_next c.loop-number.number c.args.self.now.keys c.copied.result at) ∙ ap (λ n. take n c.args.self.now.keys) next

pub invariant_of-result : goal.invariant_of-result
invariant_of-result c =
    let keys = ap (λ l. l.keys) c.self.view_is in
    let once = subst (IsDistinct same_dependency) (sym (c.loop-number.invariant ∙ ap (take c.loop-number.number) (sym keys)))
    (distinct-take dependencies_are c.loop-number.number c.self.inside.list.0 c.self.invariant.once) in
    subst (λ hs. AreListed c.loop-number.list.0 hs c.self.inside.state) (sym c.new.ensures) (record { once = once; first = refl })

pub returns-in_err-list : goal.returns-in_err-list
returns-in_err-list c = IfOk-from_err c.from_residual.result _ c.from_residual.ensures.0

pub returns-in_err-reserve : goal.returns-in_err-reserve
returns-in_err-reserve c = IfOk-from_err c.from_residual-in_err-reserve.result _ c.from_residual-in_err-reserve.ensures.0
