use Rattle.std.proofs.Common.{length, sym, subst, ◌∙◌, arith}
use Rattle.trace_model.specs.Theory.Rows.{IsWitness}
use Rattle.trace_model.proofs.Theory.Unique.{closure_witness}
use Rattle.fronts.specs.State.{included_set}
use Rattle.fronts.proofs.PlaceLemmas.{ascending_cut, false_from}
use Rattle.witness.proofs.order.write_witness.Goals as goal

pub returns-clause-ascends : goal.returns-clause-ascends
returns-clause-ascends c =
    let s = c.args.index.now.events in
    let set = included_set c.args.fronts.now in
    c.loop-p.invariant ∙ sym (ascending_cut set c.loop-p.p (length s) (omega arith)
    (λ p above less. false_from (set p) (λ h. let before = c.end.ensures p h in omega arith)))

pub returns-clause-smallest : goal.returns-clause-smallest
returns-clause-smallest c = λ places closure reached.
    let s = c.args.index.now.events in
    let set = included_set c.args.fronts.now in
    subst (IsWitness s places) (sym (returns-clause-ascends c))
    (closure_witness s c.len-len.ensures.well_formed places set closure reached)
