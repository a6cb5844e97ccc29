use Rattle.std.proofs.Common.{◌≡◌, ◌++◌, ◌∷◌, [], sym, subst, ◌∙◌}
use Rattle.lock_graph.specs.Graph.{IsGraphOf, holders}
use Rattle.std.proofs.lemmas.Result.{IfOk-from_err}
use Rattle.lock_tables.specs.Tables.{shared_holders}
use Rattle.lock_tables.proofs.OneFurther.{graph_same, on_ok_then}
use Rattle.lock_tables.proofs.tables.add_to.Goals as goal
use Rattle.lock_tables.proofs.tables.add_to.Goals.{in_default-via-in-None-1, in_default-via-in-Some+in-None-1}

pub returns-clause-ok : goal.returns-clause-ok
returns-clause-ok c =
    on_ok_then c.add.result c.add.ensures.graph (λ adds ds number is.
    adds ds number (subst (λ g. IsGraphOf ds (holders g)) (sym c.in-Some-get_mut.ensures.value) (subst (λ o. IsGraphOf ds (shared_holders o)) c.in-Some.is is)))

pub returns-2-clause-ok : goal.returns-2-clause-ok
returns-2-clause-ok c ds number is =
    let same : c.in_default.graph ≡ c.args.graph.now = elim c.in_default.branch [
      | in_default-via-in-None-1 w ↦ w.graph-is
      | in_default-via-in-Some+in-None-1 w ↦ w.graph-is ∙ sym w.in-Some.is
    ] in
    subst (λ g. IsGraphOf (ds ++ c.args.dependency.now ∷ []) (holders g)) (sym c.in_ok-shared.ensures.ok)
    (c.in_ok-add.ensures.graph ds number (graph_same ds _ _ c.in_ok-copy.ensures (subst (λ o. IsGraphOf ds (shared_holders o)) (sym same) is)))

pub returns-in_err-copy-clause-ok : goal.returns-in_err-copy-clause-ok
returns-in_err-copy-clause-ok c = IfOk-from_err c.from_residual.result _ c.from_residual.ensures.0

pub returns-in_err-add-clause-ok : goal.returns-in_err-add-clause-ok
returns-in_err-add-clause-ok c = IfOk-from_err c.from_residual-in_err-add.result _ c.from_residual-in_err-add.ensures.0

pub returns-in_err-shared-clause-ok : goal.returns-in_err-shared-clause-ok
returns-in_err-shared-clause-ok c = IfOk-from_err c.from_residual-in_err-shared.result _ c.from_residual-in_err-shared.ensures.0
