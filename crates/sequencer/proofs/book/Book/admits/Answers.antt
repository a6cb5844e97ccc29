use Rattle.std.proofs.Common.{◌≡◌, ◌≤◌, ◌==◌, false, true, not, length, slice_get, take, sym, ap, subst, ◌∙◌}
use Rattle.trace_model.specs.Theory.Trace.{Trace}
use Rattle.trace_model.specs.Protocol.Machine.{deliver_refused_by, same_events, task_refused}
use Rattle.sequencer.specs.QuestionState.{question_of}
use Rattle.sequencer.specs.Book.{BookView}
use Rattle.sequencer.proofs.QuestionAnswers.{other_bound, other_trace, same_test}
use Rattle.sequencer.proofs.book.Book.admits.Goals as goal

pub returns-in_default : goal.returns-in_default
returns-in_default c =
    let s = c.args.self.now.state in
    let f = c.args.finding.now in
    ap (λ o. deliver_refused_by s o f.bound f.events f.task) (c.in_default.ensures.value ∙ ap (slice_get s.questions) c.question.ensures)

pub returns-then-ne : goal.returns-then-ne
returns-then-ne c =
    let s = c.args.self.now.state in
    let f = c.args.finding.now in
    let q = question_of c.in-Some.asked.now in
    let bound : true ≡ not (f.bound == q.bound) = c.if-ne.ensures ∙ (λ i. not (c.bound.ensures i == c.bound-2.ensures i)) in
    other_bound s f q (c.in-Some.ensures.value ∙ ap (slice_get s.questions) c.question.ensures) bound

pub is_of-requires : goal.is_of-requires
is_of-requires c =
    let s = c.self.inside.recorder.events in
    let shown : s ≡ c.args.self.now.state.accepted = ap (λ (k : BookView). k.state.accepted) c.self.view_is in
    subst (λ n. n ≤ length s) (sym c.length.ensures) (subst (λ (r : Trace). c.in-Some.asked.now.length ≤ length r) (sym shown) c.in-Some.ensures.within)

pub returns-then-not-is_of : goal.returns-then-not-is_of
returns-then-not-is_of c =
    let s = c.args.self.now.state in
    let f = c.args.finding.now in
    let q = question_of c.in-Some.asked.now in
    let shown = ap (λ (k : BookView). k.state.accepted) c.self.view_is in
    let bound : false ≡ not (f.bound == q.bound) = c.if-ne.ensures ∙ (λ i. not (c.bound.ensures i == c.bound-2.ensures i)) in
    let same : false ≡ same_events f.events (take q.length s.accepted) = c.if-not-is_of.ensures ∙ (λ i. same_events (c.snapshot.ensures i) (take (c.length.ensures i) (shown i))) in
    other_trace s f q (c.in-Some.ensures.value ∙ ap (slice_get s.questions) c.question.ensures) bound same

pub returns : goal.returns
returns c =
    let s = c.args.self.now.state in
    let f = c.args.finding.now in
    let q = question_of c.in-Some.asked.now in
    let shown = ap (λ (k : BookView). k.state.accepted) c.self.view_is in
    let bound : false ≡ not (f.bound == q.bound) = c.if-ne.ensures ∙ (λ i. not (c.bound.ensures i == c.bound-2.ensures i)) in
    let same : true ≡ same_events f.events (take q.length s.accepted) = c.if-not-is_of.ensures ∙ (λ i. same_events (c.snapshot.ensures i) (take (c.length.ensures i) (shown i))) in
    c.check.ensures
    ∙ (ap (λ task. task_refused (slice_get q.tasks task)) c.task.ensures
    ∙ same_test s f q (c.in-Some.ensures.value ∙ ap (slice_get s.questions) c.question.ensures) bound same)
