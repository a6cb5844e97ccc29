use Rattle.std.specs.Result.{OnOk}
use Rattle.std.proofs.Common.{◌≡◌, ℕ, List, Option, Result, refl, sym, ap, subst, ◌∙◌}
use Rattle.std.specs.Prelude.{box_value, codes}
use Rattle.std.proofs.lemmas.List.Elements.{recursion_from_All}
use Rattle.std.proofs.lemmas.Result.{on_ok_weaker}
use Rattle.trace_model.specs.declared.messages.session.Request.{Request}
use Rattle.trace_model.specs.declared.messages.session.Request.TheVariants as requests
use Rattle.trace_model.specs.declared.traces.event.Event.{Event}
use Rattle.trace_model.specs.Protocol.Frames.{FitsWords, IsRequest, frame}
use Rattle.trace_model.specs.Protocol.Machine.{State}
use Rattle.sequencer.specs.Book.{BookView}
use Rattle.commands.specs.ScriptFile.{FitsCommand}
use Rattle.commands.specs.ScriptRun.{DeliversOne, Works, outcome_line}
use Rattle.commands.specs.ScriptTells.{IsPrintOf, Prints, Replies}
use Rattle.commands.proofs.Outputs.{cut_part, on_err}
use Rattle.commands.specs.Output.{Writes}
use Rattle.commands.specs.declared.exit.CommandError.{CommandError}
use Rattle.commands.specs.declared.script_command.reading.Command.{Command}
use Rattle.commands.proofs.script_command.ScriptSession.run.Goals as goal

-- what is printed is a reply to the request that the command is
printed : (outcome : Result (Unit {0}) CommandError) (s next : State) (before after : Option (List ℕ)) (bytes : List ℕ) (request : Request) (one command : Command) →
    command ≡ one → IsRequest request → bytes ≡ frame request → (Writes before after (Replies s request next) → Writes before after (Prints s one next)) →
    OnOk outcome ((q : Request) → IsRequest q → bytes ≡ frame q → Writes before after (Replies s q next)) → OnOk outcome (Writes before after (Prints s command next))
printed outcome s next before after bytes request one command is fits framed same =
    on_ok_weaker outcome (λ h. subst (λ (x : Command). Writes before after (Prints s x next)) (sym is) (same (h request fits framed)))

pub request-requires : goal.request-requires
request-requires g c = (requests.Offer c.in-Offer.event, subst FitsCommand c.in-Offer.is c.requires, c.offer_frame.ensures)

pub returns-in-Offer-clause-printed : goal.returns-in-Offer-clause-printed
returns-in-Offer-clause-printed g c =
    printed c.request.result c.args.self.now.book.state c.request.new.self.book.state (g.O.Write.contents c.args.out.now) (g.O.Write.contents c.request.new.out) _
    (requests.Offer c.in-Offer.event) _ _ c.in-Offer.is (subst FitsCommand c.in-Offer.is c.requires) c.offer_frame.ensures (λ writes. writes) c.request.ensures.printed

pub request-requires-in-Ask : goal.request-requires-in-Ask
request-requires-in-Ask g c = (requests.Ask c.in-Ask.bound, subst FitsCommand c.in-Ask.is c.requires, c.ask_frame.ensures)

pub returns-in-Ask-clause-printed : goal.returns-in-Ask-clause-printed
returns-in-Ask-clause-printed g c =
    printed c.request-in-Ask.result c.args.self.now.book.state c.request-in-Ask.new.self.book.state (g.O.Write.contents c.args.out.now) (g.O.Write.contents c.request-in-Ask.new.out) _
    (requests.Ask c.in-Ask.bound) _ _ c.in-Ask.is (subst FitsCommand c.in-Ask.is c.requires) c.ask_frame.ensures (λ writes. writes) c.request-in-Ask.ensures.printed

pub request-requires-in-Answer : goal.request-requires-in-Answer
request-requires-in-Answer g c = (requests.Answer c.in-Answer.question, subst FitsCommand c.in-Answer.is c.requires, c.answer_frame.ensures)

pub returns-in-Answer-clause-printed : goal.returns-in-Answer-clause-printed
returns-in-Answer-clause-printed g c =
    printed c.request-in-Answer.result c.args.self.now.book.state c.request-in-Answer.new.self.book.state (g.O.Write.contents c.args.out.now) (g.O.Write.contents c.request-in-Answer.new.out) _
    (requests.Answer c.in-Answer.question) _ _ c.in-Answer.is (subst FitsCommand c.in-Answer.is c.requires) c.answer_frame.ensures (λ writes. writes) c.request-in-Answer.ensures.printed

pub request-requires-in-Status : goal.request-requires-in-Status
request-requires-in-Status g c = (requests.Status c.in-Status.question, subst FitsCommand c.in-Status.is c.requires, c.status_frame.ensures)

pub returns-in-Status-clause-printed : goal.returns-in-Status-clause-printed
returns-in-Status-clause-printed g c =
    printed c.request-in-Status.result c.args.self.now.book.state c.request-in-Status.new.self.book.state (g.O.Write.contents c.args.out.now) (g.O.Write.contents c.request-in-Status.new.out) _
    (requests.Status c.in-Status.question) _ _ c.in-Status.is (subst FitsCommand c.in-Status.is c.requires) c.status_frame.ensures (λ writes. writes) c.request-in-Status.ensures.printed

pub request-requires-in-Batch : goal.request-requires-in-Batch
request-requires-in-Batch g c =
    let fits = subst FitsCommand c.in-Batch.is c.requires in
    let is = c.deref-in-Batch.ensures.value ∙ c.in_ok-frame-in-Batch.ensures ∙ ap (λ (events : List Event). frame (requests.Batch events)) (c.events.ensures.value ∙ c.deref.ensures) in
    (requests.Batch (box_value c.in-Batch.batch), (fits.0, recursion_from_All FitsWords (box_value c.in-Batch.batch) fits.1), is)

pub returns-in_ok-frame-in-Batch-clause-printed : goal.returns-in_ok-frame-in-Batch-clause-printed
returns-in_ok-frame-in-Batch-clause-printed g c =
    let fits = subst FitsCommand c.in-Batch.is c.requires in
    let is = c.deref-in-Batch.ensures.value ∙ c.in_ok-frame-in-Batch.ensures ∙ ap (λ (events : List Event). frame (requests.Batch events)) (c.events.ensures.value ∙ c.deref.ensures) in
    printed c.request-in-Batch.result c.args.self.now.book.state c.request-in-Batch.new.self.book.state (g.O.Write.contents c.args.out.now) (g.O.Write.contents c.request-in-Batch.new.out) _
    (requests.Batch (box_value c.in-Batch.batch)) _ _ c.in-Batch.is (fits.0, recursion_from_All FitsWords (box_value c.in-Batch.batch) fits.1) is (λ writes. writes) c.request-in-Batch.ensures.printed

pub returns-in-Work-clause-printed : goal.returns-in-Work-clause-printed
returns-in-Work-clause-printed g c =
    let s = c.args.self.now.book.state in
    let next = c.write_number.new.self.book in
    let before = g.O.Write.contents c.args.out.now in
    let after = g.O.Write.contents c.write_number.new.out in
    let outcome = c.work-worked.result in
    let did = subst (λ (b : BookView). Works s c.in-Work.question outcome b.state) (sym c.write_number.ensures.book) c.work-worked.ensures in
    on_ok_weaker c.write_number.result (λ grew. subst (λ (x : Command). Writes before after (Prints s x next.state)) (sym c.in-Work.is) (outcome_line (codes "worked ") outcome, (outcome, did, refl), grew)) c.write_number.ensures.written

pub returns-in-Deliver-clause-printed : goal.returns-in-Deliver-clause-printed
returns-in-Deliver-clause-printed g c =
    let s = c.args.self.now.book.state in
    let next = c.write_number-in-Deliver.new.self.book in
    let before = g.O.Write.contents c.args.out.now in
    let after = g.O.Write.contents c.write_number-in-Deliver.new.out in
    let outcome = c.deliver-delivered.result in
    let did = subst (λ (b : BookView). DeliversOne s c.in-Deliver.question c.in-Deliver.task outcome b.state) (sym c.write_number-in-Deliver.ensures.book) c.deliver-delivered.ensures in
    on_ok_weaker c.write_number-in-Deliver.result (λ grew. subst (λ (x : Command). Writes before after (Prints s x next.state)) (sym c.in-Deliver.is) (outcome_line (codes "delivered ") outcome, (outcome, did, refl), grew)) c.write_number-in-Deliver.ensures.written

pub returns-in-Work-clause-cut : goal.returns-in-Work-clause-cut
returns-in-Work-clause-cut g c =
    let s = c.args.self.now.book.state in
    let next = c.write_number.new.self.book in
    let before = g.O.Write.contents c.args.out.now in
    let after = g.O.Write.contents c.write_number.new.out in
    let outcome = c.work-worked.result in
    let line = outcome_line (codes "worked ") outcome in
    let did = subst (λ (b : BookView). Works s c.in-Work.question outcome b.state) (sym c.write_number.ensures.book) c.work-worked.ensures in
    on_err c.write_number.result _ _ (λ part. cut_part before after (IsPrintOf s c.args.command.now) line (subst (λ (x : Command). IsPrintOf s x line) (sym c.in-Work.is) (next.state, (outcome, did, refl))) part) c.write_number.ensures.cut

pub returns-in-Deliver-clause-cut : goal.returns-in-Deliver-clause-cut
returns-in-Deliver-clause-cut g c =
    let s = c.args.self.now.book.state in
    let next = c.write_number-in-Deliver.new.self.book in
    let before = g.O.Write.contents c.args.out.now in
    let after = g.O.Write.contents c.write_number-in-Deliver.new.out in
    let outcome = c.deliver-delivered.result in
    let line = outcome_line (codes "delivered ") outcome in
    let did = subst (λ (b : BookView). DeliversOne s c.in-Deliver.question c.in-Deliver.task outcome b.state) (sym c.write_number-in-Deliver.ensures.book) c.deliver-delivered.ensures in
    on_err c.write_number-in-Deliver.result _ _ (λ part. cut_part before after (IsPrintOf s c.args.command.now) line (subst (λ (x : Command). IsPrintOf s x line) (sym c.in-Deliver.is) (next.state, (outcome, did, refl))) part) c.write_number-in-Deliver.ensures.cut
