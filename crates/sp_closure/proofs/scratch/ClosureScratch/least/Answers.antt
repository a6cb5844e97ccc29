use Rattle.std.proofs.Common.{◌≡◌, ℕ, Vec, List, Option, Some, sym, ap, length, subst, ◌∙◌, arith}
use Rattle.std.specs.Global.{Global}
use Rattle.std.specs.List.{Contains}
use Rattle.std.proofs.lemmas.Result.{IfOk-from_err}
use Rattle.trace_model.proofs.Theory.Ascending.{contains_at}
use Rattle.trace_model.specs.Theory.Trace.{Trace}
use Rattle.trace_model.specs.Theory.Closure.{IsClosure, Places}
use Rattle.trace_model.specs.Theory.Rows.{IsLeastInstance}
use Rattle.fronts.specs.State.{included_set}
use Rattle.sp_closure.specs.Reaching.{FindsPlaces, IsLeastWith}
use Rattle.sp_closure.specs.Scratches.{CountsBut, KeepsFor, upper_places, upper_total}
use Rattle.sp_closure.proofs.scratch.ClosureScratch.least.Goals as goal

pub places-requires-clause-known : goal.places-requires-clause-known
places-requires-clause-known g c = λ i m at.
    c.requires.known m (subst (λ xs. Contains xs m) c.numbers.ensures.value (contains_at c.numbers.result.now m i at))

-- The least instance, with its closure.
found_least : (s : Trace) (cycle numbers places : List ℕ) (set : Places) (answer : Option (Vec ℕ Global)) (listed : Vec ℕ Global) →
    numbers ≡ cycle → places ≡ listed.items → answer ≡ Some listed → FindsPlaces s numbers set answer → IsLeastWith s cycle places set
found_least s cycle numbers places set answer listed same is some finds =
    subst (λ xs. IsLeastWith s xs places set) same (subst (λ xs. IsLeastWith s numbers xs set) (sym is) (subst (FindsPlaces s numbers set) some finds))

pub answer-requires : goal.answer-requires
answer-requires g c =
    let least = found_least c.args.index.now.events c.args.cycle.now c.numbers.result.now c.as_slice.result.now (upper_places c.args.index.now.events c.args.requirements.now c.places.new.self)
    c.in_ok-places.field-0 c.in-Some.places c.numbers.ensures.value c.as_slice.ensures.value c.in-Some.is c.in_ok-places.ensures.least in
    let count = least.0.is_instance.0 ∙ ap length (sym c.numbers.ensures.value) in
    record {
      scratch = c.places.ensures.scratch;
      low = omega (arith, count, c.numbers.ensures.low);
      high = omega (arith, count, c.numbers.ensures.high);
      closure = least.1;
      fronts = c.in_ok-places.ensures.fronts;
    }

pub returns-in_err-places : goal.returns-in_err-places
returns-in_err-places g c = record {
  scratch = c.places.ensures.scratch;
  least = IfOk-from_err c.from_residual.result _ c.from_residual.ensures.0;
  size = IfOk-from_err c.from_residual.result _ c.from_residual.ensures.0;
  counted = IfOk-from_err c.from_residual.result _ c.from_residual.ensures.0;
  at_most = c.places.ensures.at_most;
}

pub returns-in_err-answer-in-Some : goal.returns-in_err-answer-in-Some
returns-in_err-answer-in-Some g c =
    let is_err = c.from_residual-in_err-answer-in-Some.ensures.0 in
    let result = c.from_residual-in_err-answer-in-Some.result in
    record {
      scratch = c.places.ensures.scratch;
      least = IfOk-from_err result _ is_err;
      size = IfOk-from_err result _ is_err;
      counted = IfOk-from_err result _ is_err;
      at_most = c.places.ensures.at_most;
    }

pub returns-in_ok-answer-in-Some : goal.returns-in_ok-answer-in-Some
returns-in_ok-answer-in-Some g c =
    let s = c.args.index.now.events in
    let answer = c.in_ok-answer-in-Some.ensures in
    let least = found_least c.args.index.now.events c.args.cycle.now c.numbers.result.now c.as_slice.result.now (upper_places c.args.index.now.events c.args.requirements.now c.places.new.self)
    c.in_ok-places.field-0 c.in-Some.places c.numbers.ensures.value c.as_slice.ensures.value c.in-Some.is c.in_ok-places.ensures.least in
    record {
      scratch = c.places.ensures.scratch;
      least = (
        subst (IsLeastInstance s c.args.cycle.now) (sym answer.instance) least.0,
        subst (λ ps. IsClosure s ps (included_set c.in_ok-answer-in-Some.field-0.1)) (sym answer.instance) answer.closure,
      );
      size = answer.size;
      counted = subst (λ numbers. CountsBut (KeepsFor s c.args.requirements.now c.args.self.now numbers) c.args.steps.now c.places.new.steps (upper_total c.args.requirements.now c.places.new.self))
          c.numbers.ensures.value c.in_ok-places.ensures.counted;
      at_most = c.places.ensures.at_most;
    }

pub returns-in-None : goal.returns-in-None
returns-in-None g c =
    let s = c.args.index.now.events in
    let set = upper_places s c.args.requirements.now c.places.new.self in
    let least = subst (λ numbers. FindsPlaces s numbers set c.in_ok-places.field-0) c.numbers.ensures.value c.in_ok-places.ensures.least in
    record {
      scratch = c.places.ensures.scratch;
      least = rw c.in-None.is at least;
      size = tt;
      counted = subst (λ numbers. CountsBut (KeepsFor s c.args.requirements.now c.args.self.now numbers) c.args.steps.now c.places.new.steps (upper_total c.args.requirements.now c.places.new.self))
          c.numbers.ensures.value c.in_ok-places.ensures.counted;
      at_most = c.places.ensures.at_most;
    }
