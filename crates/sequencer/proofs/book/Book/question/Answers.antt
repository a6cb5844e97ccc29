use Rattle.std.proofs.Common.{◌≡◌, ◌≤◌, length, take, slice_get, ap, subst, ◌∙◌, IfSome}
use Rattle.std.specs.Slice.{IsItemAt}
use Rattle.trace_model.specs.Theory.Trace.{Trace}
use Rattle.trace_model.specs.Theory.Dependencies.{dependencies}
use Rattle.sequencer.specs.QuestionState.{HasNamedRows}
use Rattle.sequencer.specs.Book.{BookView}
use Rattle.sequencer.proofs.KeptOn.{lent_value, lent_within, lent_named, lent_total}
use Rattle.sequencer.proofs.book.Book.question.Goals as goal

pub returns-clause-within : goal.returns-clause-within
returns-clause-within c =
    let b = c.self.inside in
    let shown : b.recorder.events ≡ c.args.self.now.state.accepted = ap (λ (k : BookView). k.state.accepted) c.self.view_is in
    let lent = subst (λ items. IsItemAt items c.args.question c.get.result) c.deref.ensures.value c.get.ensures.lookup in
    subst (λ (s : Trace). IfSome c.get.result (λ asked. asked.now.length ≤ length s)) shown
    (lent_within b.recorder.limit b.limit b.recorder.events b.questions.items c.args.question c.get.result c.self.invariant lent)

pub returns-clause-named : goal.returns-clause-named
returns-clause-named c =
    let b = c.self.inside in
    let shown : b.recorder.events ≡ c.args.self.now.state.accepted = ap (λ (k : BookView). k.state.accepted) c.self.view_is in
    let lent = subst (λ items. IsItemAt items c.args.question c.get.result) c.deref.ensures.value c.get.ensures.lookup in
    subst (λ (s : Trace). IfSome c.get.result (λ asked. HasNamedRows (take asked.now.length s) asked.now)) shown
    (lent_named b.recorder.limit b.limit b.recorder.events b.questions.items c.args.question c.get.result c.self.invariant lent)

pub returns-clause-total : goal.returns-clause-total
returns-clause-total c =
    let b = c.self.inside in
    let shown : b.recorder.events ≡ c.args.self.now.state.accepted = ap (λ (k : BookView). k.state.accepted) c.self.view_is in
    let lent = subst (λ items. IsItemAt items c.args.question c.get.result) c.deref.ensures.value c.get.ensures.lookup in
    subst (λ (s : Trace). IfSome c.get.result (λ asked. length asked.now.tasks ≡ length (dependencies (take asked.now.length s)))) shown
    (lent_total b.recorder.limit b.limit b.recorder.events b.questions.items c.args.question c.get.result c.self.invariant lent)

pub returns-clause-value : goal.returns-clause-value
returns-clause-value c =
    let lent = subst (λ items. IsItemAt items c.args.question c.get.result) c.deref.ensures.value c.get.ensures.lookup in
    lent_value c.self.inside.questions.items c.args.question c.get.result lent ∙ ap (λ (k : BookView). slice_get k.state.questions c.args.question) c.self.view_is
