use Rattle.std.proofs.Common.{◌≡◌, ◌≤◌, length, take, inl, inr, refl, sym, ap, subst, ◌∙◌, arith}
use Rattle.trace_model.specs.Theory.Trace.{Trace}
use Rattle.trace_model.specs.Theory.Dependencies.{dependencies}
use Rattle.sequencer.specs.QuestionState.{question_of}
use Rattle.sequencer.specs.Book.{BookView}
use Rattle.sequencer.proofs.book.Book.snapshot_counted.Goals as goal

pub returns-in_default : goal.returns-in_default
returns-in_default g c = record { ok = tt; refused = inl (refl, sym c.in_default.ensures.value); copies = omega arith }

pub snapshot-requires : goal.snapshot-requires
snapshot-requires g c =
    let s = c.self.inside.recorder.events in
    let shown : s ≡ c.args.self.now.state.accepted = ap (λ (k : BookView). k.state.accepted) c.self.view_is in
    let question_view = c.in-Some.ensures in
    let long = c.length.ensures in
    record {
      within = subst (λ n. n ≤ length s) (sym long) (subst (λ (r : Trace). c.in-Some.asked.now.length ≤ length r) (sym shown) question_view.within);
      total = c.total.ensures ∙ (question_view.total ∙ (λ i. length (dependencies (take (sym long i) (sym shown i)))));
    }

pub returns-in-Ok : goal.returns-in-Ok
returns-in-Ok g c =
    let shown = ap (λ (k : BookView). k.state.accepted) c.self.view_is in
    record {
      ok = (question_of c.in-Some.asked.now, sym c.in-Some.ensures.value, c.in-Ok.ensures.events ∙ (λ i. take (c.length.ensures i) (shown i)));
      refused = tt;
      copies = c.snapshot.ensures.copies;
    }

pub returns-in-Err : goal.returns-in-Err
returns-in-Err g c = record { ok = tt; refused = inr (refl, (question_of c.in-Some.asked.now, sym c.in-Some.ensures.value)); copies = c.snapshot.ensures.copies }
