-- From a call under the lock to the desk's answer and its receipt.
use Rattle.std.proofs.Common.{◌≡◌, ℕ, List, [], ◌∷◌, ◌++◌, None, Result, Ok, Err, IfOk, IfErr, sym, ap, subst, ◌∙◌}
use Rattle.std.specs.Result.{OnOk, OnErr}
use Rattle.trace_model.specs.declared.messages.step.BoardStep.{BoardStep}
use Rattle.trace_model.specs.declared.refusal.Refusal.{Refusal}
use Rattle.trace_model.specs.Protocol.Machine.{State}
use Rattle.trace_model.specs.Protocol.Runs.{IsLegal}
use Rattle.snapshots.specs.Found.{AreRowsOf, RowsOfTask}
use Rattle.sequencer.specs.Deliveries.{DeliveryResult, delivery}
use Rattle.desk.specs.Deliveries.{WentSo}
use Rattle.desk.specs.Published.{After, Afterwards, EndsBy, DeskView, delivery_step}
use Rattle.desk.specs.Refused.{RefusesFinding}

-- a refusal is the machine's after the receipt's run
pub refused_after : {A E : Type 0} (limit : ℕ) (old new : DeskView) (run : List BoardStep) (outcome : Result A E) (So : E → State → Type 0) → After limit old.published old.state → run ≡ new.published →
    OnErr outcome (new ≡ old) → IfErr outcome (λ e. So e old.state) → IfErr outcome (λ e. Afterwards limit run (So e))
refused_after limit old new run (Ok a) So before is same so = tt
refused_after limit old new run (Err e) So before is same so =
    (old.state, subst (λ (r : List BoardStep). After limit r old.state) (sym (is ∙ ap (λ (k : DeskView). k.published) same)) before, so)

-- the last step of the receipt's run is the accepted one
pub ended_by : {A E : Type 0} (limit : ℕ) (old new : DeskView) (run : List BoardStep) (outcome : Result A E) (last : A → BoardStep) (Went : A → State → State → Type 0) → After limit old.published old.state →
    After limit new.published new.state → run ≡ new.published → IfOk outcome (λ a. new.published ≡ old.published ++ last a ∷ []) → IfOk outcome (λ a. Went a old.state new.state) →
    IfOk outcome (λ a. EndsBy limit run (last a) (Went a))
ended_by limit old new run (Ok a) last Went before after is published went = record {
  before = old.published;
  state = old.state;
  next = new.state;
  ends = is ∙ published;
  was = before;
  is = subst (λ (r : List BoardStep). After limit r new.state) (sym is) after;
  took = went;
}
ended_by limit old new run (Err e) last Went before after is published went = tt

pub if_ok : {A E : Type 0} (outcome : Result A E) (P : Type 0) → OnOk outcome P → IfOk outcome (λ _. P)
if_ok (Ok a) P h = h
if_ok (Err e) P h = tt

-- an answer is the machine's after the receipt's run
pub outcome_after : {A E : Type 0} (limit : ℕ) (old new : DeskView) (run : List BoardStep) (outcome : Result A E) (So : A → State → Type 0) → After limit old.published old.state → run ≡ new.published →
    new ≡ old → IfOk outcome (λ a. So a old.state) → IfOk outcome (λ a. Afterwards limit run (So a))
outcome_after limit old new run (Ok a) So before is same so =
    (old.state, subst (λ (r : List BoardStep). After limit r old.state) (sym (is ∙ ap (λ (k : DeskView). k.published) same)) before, so)
outcome_after limit old new run (Err e) So before is same so = tt

pub on_err : {A E : Type 0} {P : Type 0} (outcome : Result A E) → P → OnErr outcome P
on_err (Ok a) h = tt
on_err (Err e) h = h

-- the outcome of one finding at a desk
pub record IsResponseOf (limit : ℕ) (f : RowsOfTask) (outcome : DeliveryResult) (run : List BoardStep) : Type 0 where
  pub taken : OnOk outcome (EndsBy limit run (delivery_step f) (λ state next. delivery state f ≡ (None, next)))
  pub exact : OnOk outcome (AreRowsOf f.events f.bound f.task f.rows)
  pub refused : IfErr outcome (λ refused. Afterwards limit run (λ state. RefusesFinding state f refused.0))
  pub back : IfErr outcome (λ refused. refused.1 ≡ f)
  pub legal : IsLegal run

-- the receipt names the steps that are published afterwards
pub response_of : (limit : ℕ) (old new : DeskView) (f : RowsOfTask) (outcome : DeliveryResult) (run : List BoardStep) → After limit old.published old.state → After limit new.published new.state →
    WentSo old new f outcome → run ≡ new.published → IsLegal new.published → IsResponseOf limit f outcome run
response_of limit old new f (Ok u) run before after went is legal = record {
  taken = ended_by {E = Refusal × RowsOfTask} limit old new run (Ok u) (λ _. delivery_step f) (λ _ state next. delivery state f ≡ (None, next)) before after is went.published went.taken;
  exact = went.exact;
  refused = tt;
  back = tt;
  legal = subst IsLegal (sym is) legal;
}
response_of limit old new f (Err refused) run before after went is legal = record {
  taken = tt;
  exact = tt;
  refused = refused_after {A = Unit {0}} limit old new run (Err refused) (λ r state. RefusesFinding state f r.0) before is went.same went.refuses;
  back = went.back;
  legal = subst IsLegal (sym is) legal;
}
