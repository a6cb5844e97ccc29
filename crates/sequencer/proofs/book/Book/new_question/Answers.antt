use Rattle.std.proofs.Common.{◌<◌, ◌-◌, length, vec_capacity, vec_len, refl, ap, ◌∙◌, arith}
use Rattle.std.proofs.lemmas.Result.{IfOk-from_err, IfOk-weaker}
use Rattle.trace_model.specs.Theory.Trace.{Trace}
use Rattle.trace_model.specs.Theory.Dependencies.{dependencies}
use Rattle.trace_model.proofs.Protocol.Bounds.{dependencies_few}
use Rattle.sequencer.specs.Book.{BookView, book_state}
use Rattle.sequencer.proofs.KeptOn.{kept_again, opened_room}
use Rattle.sequencer.proofs.book.Book.new_question.Goals as goal

pub overflow_cast-total : goal.overflow_cast-total
overflow_cast-total c =
    let events = c.self.inside.recorder.events in
    let same = ap (λ (s : Trace). length (dependencies s)) c.catch_up.ensures.0 in
    omega (arith, same, c.dependencies-total.ensures, dependencies_few events (length events), c.self.invariant.fits.within, c.self.invariant.fits.limit)

pub overflow_cast-length : goal.overflow_cast-length
overflow_cast-length c =
    let same = ap (λ (s : Trace). length s) c.catch_up.ensures.0 in
    omega (arith, same, c.len-length.ensures.length, c.self.invariant.fits.within, c.self.invariant.fits.limit)

pub invariant_of-self : goal.invariant_of-self
invariant_of-self c =
    let b = c.self.inside in
    kept_again b.recorder.limit c.catch_up.new.self.limit b.limit b.recorder.events c.catch_up.new.self.events b.questions.items b.questions.items c.catch_up.ensures.1 c.catch_up.ensures.0 refl c.self.invariant

pub returns-in_err-catch_up : goal.returns-in_err-catch_up
returns-in_err-catch_up c =
    let b = c.self.inside in
    record {
      shown = ap (λ (s : Trace). book_state b.limit s b.questions.items) c.catch_up.ensures.0 ∙ ap (λ (k : BookView). k.state) c.self.view_is;
      ok = IfOk-from_err c.from_residual.result _ c.from_residual.ensures.0;
    }

pub invariant_of-self-in_err-reserve : goal.invariant_of-self-in_err-reserve
invariant_of-self-in_err-reserve c =
    let b = c.self.inside in
    kept_again b.recorder.limit c.catch_up.new.self.limit b.limit b.recorder.events c.catch_up.new.self.events b.questions.items c.reserve.new.self.items c.catch_up.ensures.1 c.catch_up.ensures.0
    c.reserve.ensures.items c.self.invariant

pub returns-in_err-reserve : goal.returns-in_err-reserve
returns-in_err-reserve c =
    let b = c.self.inside in
    record {
      shown = (λ i. book_state b.limit (c.catch_up.ensures.0 i) (c.reserve.ensures.items i)) ∙ ap (λ (k : BookView). k.state) c.self.view_is;
      ok = IfOk-from_err c.from_residual-in_err-reserve.result _ c.from_residual-in_err-reserve.ensures.0;
    }

pub invariant_of-self-2 : goal.invariant_of-self-2
invariant_of-self-2 c =
    let b = c.self.inside in
    kept_again b.recorder.limit c.catch_up.new.self.limit b.limit b.recorder.events c.catch_up.new.self.events b.questions.items c.reserve.new.self.items c.catch_up.ensures.1 c.catch_up.ensures.0
    c.reserve.ensures.items c.self.invariant

pub returns : goal.returns
returns c =
    let b = c.self.inside in
    let v = c.reserve.new.self in
    let room : 0 < vec_capacity v - vec_len v = omega (arith, c.in_ok-reserve.ensures.ok) in
    let s = book_state b.limit c.catch_up.new.self.events v.items in
    record {
      shown = (λ i. book_state b.limit (c.catch_up.ensures.0 i) (c.reserve.ensures.items i)) ∙ ap (λ (k : BookView). k.state) c.self.view_is;
      ok = IfOk-weaker c.new.result _ _ (λ question_view is. opened_room s (vec_capacity v - vec_len v) question_view c.len-length.result c.args.bound c.dependencies-total.result room is c.len-length.ensures.length c.dependencies-total.ensures) c.new.ensures;
    }
