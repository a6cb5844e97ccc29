use Rattle.std.proofs.Common.{◌≡◌, [], ◌∷◌, ◌++◌, sym, ap, subst, ◌∙◌}
use Rattle.trace_model.specs.Protocol.Machine.{State, ask_refused, with_question}
use Rattle.sequencer.specs.QuestionState.{QuestionView}
use Rattle.sequencer.specs.Book.{BookView, IsBook, fresh, book_state}
use Rattle.sequencer.proofs.KeptOn.{kept_question, with_fresh}
use Rattle.sequencer.proofs.book.Book.record_question.Goals as goal

pub invariant_of-self : goal.invariant_of-self
invariant_of-self c =
    let inside = c.self.inside in
    let shown : book_state inside.limit inside.recorder.events inside.questions.items ≡ c.args.self.now.state = ap (λ (k : BookView). k.state) c.self.view_is in
    let is : c.push_reserved.new.self.items ≡ inside.questions.items ++ fresh (book_state inside.limit inside.recorder.events inside.questions.items) c.args.asked.bound ∷ [] =
    c.push_reserved.ensures.items ∙ ap (λ (t : QuestionView). inside.questions.items ++ t ∷ []) (c.requires.fresh ∙ ap (λ (s : State). fresh s c.args.asked.bound) (sym shown)) in
    subst (IsBook inside.recorder.limit inside.limit inside.recorder.events) (sym is)
    (kept_question inside.recorder.limit inside.limit inside.recorder.events inside.questions.items c.args.asked.bound (ap (λ (s : State). ask_refused s c.args.asked.bound) shown ∙ c.requires.allowed) c.self.invariant)

pub returns : goal.returns
returns c =
    let inside = c.self.inside in
    let shown : book_state inside.limit inside.recorder.events inside.questions.items ≡ c.args.self.now.state = ap (λ (k : BookView). k.state) c.self.view_is in
    let is : c.push_reserved.new.self.items ≡ inside.questions.items ++ fresh (book_state inside.limit inside.recorder.events inside.questions.items) c.args.asked.bound ∷ [] =
    c.push_reserved.ensures.items ∙ ap (λ (t : QuestionView). inside.questions.items ++ t ∷ []) (c.requires.fresh ∙ ap (λ (s : State). fresh s c.args.asked.bound) (sym shown)) in
    ap (book_state inside.limit inside.recorder.events) is
    ∙ (with_fresh inside.limit inside.recorder.events inside.questions.items c.args.asked.bound ∙ ap (λ (s : State). with_question s c.args.asked.bound) shown)
