use Rattle.std.proofs.Common.{option_map, sym, ap, ◌∙◌}
use Rattle.std.proofs.lemmas.List.{length-map}
use Rattle.trace_model.specs.declared.messages.session.Reply.TheVariants.{Status}
use Rattle.trace_model.specs.Protocol.Machine.{status_of}
use Rattle.sequencer.specs.QuestionState.{plain_rows}
use Rattle.sequencer.proofs.book.Book.status.Goals as goal

pub returns-in_default : goal.returns-in_default
returns-in_default c = record { ok = tt; refused = ap (status_of c.args.self.now.state c.args.question) (sym c.in_default.ensures.value) }

pub returns : goal.returns
returns c = record {
  ok = ap (status_of c.args.self.now.state c.args.question) (sym c.in-Some.ensures.value)
      ∙ (λ i. Status (record {
        question = c.args.question;
        accepted = sym c.accepted.ensures i;
        opened = sym c.question_count.ensures i;
        length = sym c.length.ensures i;
        bound = sym c.bound.ensures i;
        total = (length-map c.in-Some.asked.now.tasks (option_map plain_rows) ∙ sym c.total.ensures) i;
        delivered = sym c.delivered.ensures i;
        cycles = sym c.cycles.ensures i;
        confirmed = sym c.confirmed.ensures i;
      }));
  refused = tt;
}
