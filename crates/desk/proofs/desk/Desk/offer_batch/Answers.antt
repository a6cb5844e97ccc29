use Rattle.std.proofs.Common.{List, sym, subst, ◌∙◌}
use Rattle.trace_model.specs.declared.messages.step.BoardStep.{BoardStep}
use Rattle.trace_model.specs.Protocol.Runs.{IsLegal}
use Rattle.desk.specs.Published.{After}
use Rattle.desk.proofs.desk.Desk.offer_batch.Goals as goal

pub returns : goal.returns
returns g c =
    let old = c.deref_mut.result.now in
    let new = c.offer_batch.new.self in
    let b = c.offer_batch.ensures in
    record {
      batched = record {
        before = old.published;
        state = old.state;
        next = new.state;
        ends = b.receipt ∙ b.published;
        was = b.before;
        is = subst (λ (run : List BoardStep). After g.N.HistoryId.limit run new.state) (sym b.receipt) b.after;
        went = b.batched;
      };
      legal = subst IsLegal (sym b.receipt) b.legal;
    }
