use Rattle.std.proofs.Common.{◌≡◌, [], ◌∷◌, ◌++◌, List, fold, sym, ap, subst, ◌∙◌}
use mathlib.Core.List.{IsPrefix}
use Rattle.trace_model.specs.declared.messages.step.BoardStep.{BoardStep}
use Rattle.trace_model.specs.Protocol.Runs.{IsLegal}
use Rattle.board.proofs.Publishing.{next_run, publishing, of_ok}
use Rattle.board.proofs.writer.show.Goals as goal

pub publish_as-requires : goal.publish_as-requires
publish_as-requires g c t is =
    let s = c.append.new.publisher.desk.shown.value in
    let step = c.requires.next.0 in
    let ends : c.args.next ≡ g.T.BoardValue.run s ++ step ∷ [] = c.requires.next.1 ∙ ap (λ d. g.T.BoardValue.run d.shown.value ++ step ∷ []) (sym c.append.ensures.desk) in
    let after : g.T.BoardValue.run t ≡ c.args.next =
    next_run g.T.BoardValue.run g.T.Absorb.state g.T.Absorb.applied g.met.T.BoardValue.idle g.met.T.BoardValue.follows s t c.args.next step ends
    (is ∙ ap (λ ops. fold g.T.Absorb.applied (g.T.Absorb.state s) ops) c.append.ensures.pending) in
    publishing g.T.BoardValue.run g.T.Protocol.holds g.met.T.BoardValue.ruled g.met.T.BoardValue.kept _ _ s t (subst IsLegal (sym after) c.requires.legal)
    (subst (λ (xs : List BoardStep). IsPrefix (g.T.BoardValue.run s) xs) (sym after) (step ∷ [], sym ends))

pub returns-clause-shown : goal.returns-clause-shown
returns-clause-shown g c =
    let s = c.append.new.publisher.desk.shown.value in
    let step = c.requires.next.0 in
    let ends : c.args.next ≡ g.T.BoardValue.run s ++ step ∷ [] = c.requires.next.1 ∙ ap (λ d. g.T.BoardValue.run d.shown.value ++ step ∷ []) (sym c.append.ensures.desk) in
    let done = of_ok _ _ c.publish_as.result.1 (c.publish_as.ensures.succeeds g.met.T.BoardValue.sure) c.publish_as.ensures.values in
    next_run g.T.BoardValue.run g.T.Absorb.state g.T.Absorb.applied g.met.T.BoardValue.idle g.met.T.BoardValue.follows s c.publish_as.result.0.desk.shown.value c.args.next step ends
    (done.1.0 ∙ ap (λ ops. fold g.T.Absorb.applied (g.T.Absorb.state s) ops) c.append.ensures.pending)

pub returns-clause-seen : goal.returns-clause-seen
returns-clause-seen g c =
    let reported = of_ok _ _ c.publish_as.result.1 (c.publish_as.ensures.succeeds g.met.T.BoardValue.sure) c.publish_as.ensures.rule in
    reported.1 ∙ returns-clause-shown g c
