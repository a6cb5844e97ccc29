use Rattle.std.proofs.Common.{length, sym, ap, subst, ◌∙◌}
use Rattle.std.specs.Arc.{arc_value}
use Rattle.result_ledger.specs.Tasks.{AreShared}
use Rattle.trace_model.specs.Protocol.Machine.{delivered_count}
use Rattle.trace_model.specs.declared.messages.session.Reply.TheVariants.{Pending}
use Rattle.sequencer.specs.QuestionState.{QuestionView, question_of}
use Rattle.sequencer.specs.Book.{RefusesReply}
use Rattle.sequencer.proofs.QuestionAnswers.{pending, shared_report}
use Rattle.sequencer.proofs.question_state.QuestionState.share_answer.Goals as goal

pub returns-in-Ok-Some-clause-ok : goal.returns-in-Ok-Some-clause-ok
returns-in-Ok-Some-clause-ok c =
    let asked = c.args.self.now in
    let same = c.in-Ok-Some.ensures.same in
    let all = subst (AreShared asked.tasks) c.in-Ok-Some.field-0-is c.in-Ok-Some.ensures.shared in
    shared_report asked c.args.question (arc_value c.in-Ok-Some.tasks).items c.length.result c.bound.result all
    (c.length.ensures ∙ ap (λ (q : QuestionView). q.length) same) (c.bound.ensures ∙ ap (λ (q : QuestionView). q.bound) same)

pub returns-in-Ok-None-clause-ok : goal.returns-in-Ok-None-clause-ok
returns-in-Ok-None-clause-ok c =
    let asked = c.args.self.now in
    let same = c.in-Ok-None.ensures.same in
    let missing = subst (AreShared asked.tasks) c.in-Ok-None.field-0-is c.in-Ok-None.ensures.shared in
    let delivered = c.delivered.ensures ∙ ap (λ (q : QuestionView). delivered_count (question_of q)) same in
    let total = c.total.ensures ∙ ap (λ (q : QuestionView). length q.tasks) same in
    λ s at named. pending s c.args.question asked missing.0 at missing.1 ∙ (λ i. Pending c.args.question (sym delivered i) (sym total i))

pub returns-in-Err-clause-refused : goal.returns-in-Err-clause-refused
returns-in-Err-clause-refused c =
    let asked = c.args.self.now in
    let same = c.in-Err.ensures.same in
    let why = c.unshared.ensures in
    let all = ap (λ (q : QuestionView). q.tasks) (sym same) ∙ why.1 in
    let size = ap (λ (q : QuestionView). q.length) same in
    let bound = ap (λ (q : QuestionView). q.bound) same in
    λ s at named. subst (λ reply. RefusesReply reply c.unshared.result) (sym (shared_report asked c.args.question why.0 _ _ all size bound s at named)) why.2
