use Rattle.std.proofs.Common.{◌≡◌, None, ap, ◌∙◌}
use Rattle.trace_model.specs.Theory.Lawful.{refusal_of}
use Rattle.sequencer.specs.Book.{BookView}
use Rattle.sequencer.proofs.KeptOn.{kept_event}
use Rattle.sequencer.proofs.book.Book.record_event.Goals as goal

pub invariant_of-self : goal.invariant_of-self
invariant_of-self c =
    let inside = c.self.inside in
    let lawful : refusal_of inside.limit inside.recorder.events c.args.event.now ≡ None =
    ap (λ (k : BookView). refusal_of k.state.limit k.state.accepted c.args.event.now) c.self.view_is ∙ c.requires.lawful in
    rw c.record.ensures (kept_event inside.recorder.limit inside.limit inside.recorder.events inside.questions.items c.args.event.now lawful c.self.invariant)
