use Rattle.std.proofs.Common.{◌≡◌, Bool, true, false, List, Option, Some, None, Result, Ok, Err, inr, refl, sym, subst}
use Rattle.std.specs.Prelude.{IfOk, OnOk, is_some}
use Rattle.trace_model.specs.declared.messages.step.BoardStep.{BoardStep}
use Rattle.board.specs.declared.summary.Unsettled.{Unsettled}
use Rattle.board.specs.Unsettled.{IsLeastUnsettled, open_questions}
use Rattle.board.proofs.Publishing.{begins_itself, begins_through}
use Rattle.desk.proofs.PassingOver.{not_given_up}
use Rattle.desk.proofs.worker.choose.Goals as goal

both : {A E : Type 0} (r : Result A E) (P : Type 0) (Q R : A → Type 0) → OnOk r P → IfOk r Q → (P → (x : A) → Q x → R x) → IfOk r R
both (Ok x) P Q R p q f = f p x q
both (Err e) P Q R p q f = tt

none_left : {A : Type 0} (o : Option A) → is_some o ≡ false → o ≡ None
none_left None e = refl
none_left (Some x) e = absurd cc

pub returns-clause-chosen : goal.returns-clause-chosen
returns-clause-chosen g c =
    let old = c.args.reader.now.known in
    let given = c.args.given_up.now in
    let passed = c.args.passed_over.now in
    let first = c.least_unsettled.new.self in
    let last = c.least_unsettled-2.new.self in
    let is_none : is_some c.in_ok-found.found ≡ false = cc in
    let none = subst (IsLeastUnsettled passed (open_questions first.seen)) (none_left c.in_ok-found.found is_none) c.in_ok-found.ensures.found in
    both c.least_unsettled-2.result _ _ _ c.least_unsettled-2.ensures.all c.least_unsettled-2.ensures.found (λ all found least.
    let shown = subst (λ (run : List BoardStep). IsLeastUnsettled given (open_questions run) found) (sym all) least in
    record {
      shown = last.known;
      later = begins_through old first.known last.known c.least_unsettled.ensures.later c.least_unsettled-2.ensures.later;
      seen = begins_itself last.known;
      least = shown;
      wanted = not_given_up given given (open_questions last.known) found (λ q e. e) shown;
      round = inr (record {
        first = first.known;
        later = c.least_unsettled.ensures.later;
        seen = c.least_unsettled-2.ensures.later;
        none = subst (λ (run : List BoardStep). IsLeastUnsettled passed (open_questions run) None) (sym c.in_ok-found.ensures.all) none;
        anew = refl;
      });
    })
