use Rattle.std.proofs.Common.{◌≡◌, slice_set, None, sym, ap, subst, ◌∙◌, arith}
use Rattle.std.proofs.lemmas.Option.{slice_get_within}
use Rattle.trace_model.specs.Protocol.Machine.{deliver, deliver_refused}
use Rattle.sequencer.specs.Book.{BookView, IsBook, book_state, findings_rows}
use Rattle.sequencer.proofs.KeptOn.{few_cycles, is_admitted, own_missing, own_question, kept_view, view_in_state, view_with}
use Rattle.sequencer.proofs.book.Book.take.Goals as goal

pub index_mut-asked-requires : goal.index_mut-asked-requires
index_mut-asked-requires c =
    let b = c.self.inside in
    let f = c.args.finding in
    let admits = ap (λ (k : BookView). deliver_refused k.state f.question f.bound f.events f.task) c.self.view_is ∙ c.requires in
    let a = is_admitted b.limit b.recorder.events b.questions.items f admits in
    rw c.question-question.ensures (omega (arith, slice_get_within b.questions.items f.question a.question_view a.known, b.questions.ok))

pub record-requires-clause-missing : goal.record-requires-clause-missing
record-requires-clause-missing c =
    let b = c.self.inside in
    let f = c.args.finding in
    let now = c.index_mut-asked.result.now in
    let admits = ap (λ (k : BookView). deliver_refused k.state f.question f.bound f.events f.task) c.self.view_is ∙ c.requires in
    let known = own_question b.limit b.recorder.events b.questions.items f now c.question-question.result admits c.index_mut-asked.ensures.value c.question-question.ensures in
    rw c.task-task.ensures (own_missing b.limit b.recorder.events b.questions.items f now admits known)

pub record-requires-clause-few : goal.record-requires-clause-few
record-requires-clause-few c =
    let b = c.self.inside in
    let f = c.args.finding in
    let now = c.index_mut-asked.result.now in
    let admits = ap (λ (k : BookView). deliver_refused k.state f.question f.bound f.events f.task) c.self.view_is ∙ c.requires in
    let known = own_question b.limit b.recorder.events b.questions.items f now c.question-question.result admits c.index_mut-asked.ensures.value c.question-question.ensures in
    rw c.into_rows.ensures.rows (few_cycles b.recorder.limit b.limit b.recorder.events b.questions.items f now c.self.invariant known c.into_rows.ensures.exact)

-- the finding in the book afterwards
written : (c : goal.After-self-1) →
    slice_set c.self.inside.questions.items c.question-question.result c.record.new.self
    ≡ slice_set c.self.inside.questions.items c.args.finding.question (view_with c.index_mut-asked.result.now c.args.finding.task c.args.finding.rows)
written c =
    let now = c.index_mut-asked.result.now in
    let is : c.record.new.self ≡ view_with now c.args.finding.task c.args.finding.rows =
    c.record.ensures ∙ (λ i. view_with now (c.task-task.ensures i) (c.into_rows.ensures.rows i)) in
    λ i. slice_set c.self.inside.questions.items (c.question-question.ensures i) (is i)

pub invariant_of-self : goal.invariant_of-self
invariant_of-self c =
    let b = c.self.inside in
    let f = c.args.finding in
    let now = c.index_mut-asked.result.now in
    let admits = ap (λ (k : BookView). deliver_refused k.state f.question f.bound f.events f.task) c.self.view_is ∙ c.requires in
    let known = own_question b.limit b.recorder.events b.questions.items f now c.question-question.result admits c.index_mut-asked.ensures.value c.question-question.ensures in
    subst (IsBook b.recorder.limit b.limit b.recorder.events) (sym (written c))
    (kept_view b.recorder.limit b.limit b.recorder.events b.questions.items f now admits known c.into_rows.ensures.exact c.self.invariant)

pub returns-clause-machine : goal.returns-clause-machine
returns-clause-machine c =
    let b = c.self.inside in
    let f = c.args.finding in
    let now = c.index_mut-asked.result.now in
    let admits = ap (λ (k : BookView). deliver_refused k.state f.question f.bound f.events f.task) c.self.view_is ∙ c.requires in
    let known = own_question b.limit b.recorder.events b.questions.items f now c.question-question.result admits c.index_mut-asked.ensures.value c.question-question.ensures in
    ap (λ (k : BookView). deliver k.state f.question f.bound f.events f.task (findings_rows f)) (sym c.self.view_is)
    ∙ (view_in_state b.limit b.recorder.events b.questions.items f now admits known
    ∙ ap (λ questions. (None, book_state b.limit b.recorder.events questions)) (sym (written c)))

pub returns-clause-exact : goal.returns-clause-exact
returns-clause-exact c = c.into_rows.ensures.exact
