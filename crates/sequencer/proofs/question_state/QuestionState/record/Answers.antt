use Rattle.std.proofs.Common.{◌≡◌, ap, ◌∙◌, arith, length, vec_len}
use Rattle.std.specs.List.{count_by}
use Rattle.std.proofs.lemmas.List.Sums.{count_by-le-length}
use Rattle.reports.specs.Text.{is_confirmed_row}
use Rattle.trace_model.specs.Protocol.Machine.{cycles_of}
use Rattle.sequencer.specs.QuestionState.{QuestionView, question_of}
use Rattle.sequencer.proofs.Counted.{confirmed_fewer, view_counts}
use Rattle.sequencer.proofs.question_state.QuestionState.record.Goals as goal

pub overflow_add-self-2 : goal.overflow_add-self-2
overflow_add-self-2 c =
    let question_view : QuestionView = record { length = c.self.inside.length; bound = c.self.inside.bound; tasks = c.self.inside.ledger } in
    omega (
      arith,
      c.self.invariant.found,
      confirmed_fewer (question_of question_view),
      ap (λ t. cycles_of (question_of t)) c.self.view_is,
      c.requires.few,
      c.confirmed_in.ensures ∙ ap (count_by is_confirmed_row) c.as_slice.ensures.value,
      count_by-le-length is_confirmed_row c.args.rows.items,
    )

pub invariant_of-self : goal.invariant_of-self
invariant_of-self c =
    let question_view : QuestionView = record { length = c.self.inside.length; bound = c.self.inside.bound; tasks = c.self.inside.ledger } in
    let long : vec_len c.args.rows ≡ length c.args.rows.items = omega (arith, c.args.rows.ok) in
    rw (c.in-Ok.ensures.1, c.len.ensures, long, c.confirmed_in.ensures, c.as_slice.ensures.value)
    (view_counts question_view c.self.inside.total c.self.inside.cycles c.self.inside.confirmed c.args.task c.args.rows.items c.in-Ok.ensures.0 c.self.invariant)
