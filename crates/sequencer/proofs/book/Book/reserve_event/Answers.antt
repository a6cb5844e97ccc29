use Rattle.std.proofs.Common.{◌≡◌, None, Some, inl, inr, refl, sym, ap, ◌∙◌}
use Rattle.std.proofs.lemmas.Result.{IfOk-from_err, err_from_is_err_and}
use Rattle.trace_model.specs.declared.refusal.Refusal.{Refusal}
use Rattle.trace_model.specs.Theory.Lawful.{refusal_of}
use Rattle.trace_model.specs.Theory.Trace.{Trace}
use Rattle.sequencer.specs.Book.{BookView, book_state}
use Rattle.sequencer.proofs.KeptOn.{checked, kept_again}
use Rattle.sequencer.proofs.book.Book.reserve_event.Goals.{in-Ok, in-Err}
use Rattle.sequencer.proofs.book.Book.reserve_event.Goals as goal

pub returns-in_err-check : goal.returns-in_err-check
returns-in_err-check c =
    let b = c.self.inside in
    let shown = ap (λ (k : BookView). k.state) c.self.view_is in
    let why = checked (Some c.in_err-check.field-0.0) b.recorder.limit b.limit b.recorder.events b.questions.items c.args.self.now.state c.args.event.now c.in_err-check.ensures c.self.invariant.same_limit shown in
    let fact = err_from_is_err_and c.from_residual.result c.from_residual.ensures.1 in
    record {
      shown = refl;
      ok = IfOk-from_err c.from_residual.result _ c.from_residual.ensures.0;
      refused = rw fact.1 (inl (why ∙ ap (λ (r : Refusal). Some r) (sym fact.2)));
    }

pub invariant_of-self : goal.invariant_of-self
invariant_of-self c =
    let b = c.self.inside in
    kept_again b.recorder.limit c.reserve.new.self.limit b.limit b.recorder.events c.reserve.new.self.events b.questions.items b.questions.items c.reserve.ensures.events.1 c.reserve.ensures.events.0 refl
    c.self.invariant

pub returns : goal.returns
returns c =
    let b = c.self.inside in
    let before = ap (λ (k : BookView). k.state) c.self.view_is in
    let shown = ap (λ (s : Trace). book_state b.limit s b.questions.items) c.reserve.ensures.events.0 ∙ before in
    let lawful : refusal_of c.args.self.now.state.limit c.args.self.now.state.accepted c.args.event.now ≡ None =
    checked None b.recorder.limit b.limit b.recorder.events b.questions.items c.args.self.now.state c.args.event.now c.in_ok-check.ensures c.self.invariant.same_limit before in
    elim c.match-reserve.branch [
      | in-Ok w ↦ rw w.result-is (record { shown = shown; ok = (w.in-Ok.ensures.ok, lawful); refused = tt })
      | in-Err w ↦ rw w.result-is (record { shown = shown; ok = tt; refused = inr (refl, lawful) })
    ]
