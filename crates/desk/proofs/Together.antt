-- One more delivered finding.
use Rattle.std.proofs.Common.{◌≡◌, ℕ, List, [], ◌∷◌, ◌++◌, length, map, take, slice_get, Some, Ok, Err, inl, inr, refl, sym, ap, subst, ◌∙◌, arith, append_assoc}
use Rattle.std.proofs.lemmas.List.{append-nil, map-append, take-append-le}
use Rattle.std.proofs.lemmas.Option.{none-some, same_Some, slice_get_within}
use Rattle.trace_model.specs.declared.messages.step.BoardStep.{BoardStep}
use Rattle.trace_model.proofs.Lists.{get-append, get-push, get-push_last, length-push, take-push}
use Rattle.snapshots.specs.Found.{RowsOfTask}
use Rattle.sequencer.specs.Deliveries.{DeliveryResult}
use Rattle.desk.specs.Deliveries.{WentSo}
use Rattle.desk.specs.Published.{After, DeskView, delivery_step}
use Rattle.desk.specs.Together.{AreOutcomes, IsOutcome, taken_findings, taken_steps}

taken_more : (fs : List RowsOfTask) (os : List DeliveryResult) (f : RowsOfTask) (o : DeliveryResult) → length os ≡ length fs →
    taken_findings (fs ++ f ∷ []) (os ++ o ∷ []) ≡ taken_findings fs os ++ taken_findings (f ∷ []) (o ∷ [])
taken_more [] [] f o same = refl
taken_more (g ∷ fs) (Ok u ∷ os) f o same = ap (λ xs. g ∷ xs) (taken_more fs os f o (omega (arith, same)))
taken_more (g ∷ fs) (Err r ∷ os) f o same = taken_more fs os f o (omega (arith, same))
taken_more [] (p ∷ os) f o same = absurd (omega (arith, same))
taken_more (g ∷ fs) [] f o same = absurd (omega (arith, same))

-- the published steps with the step of one more finding
pub steps_more : (run now next : List BoardStep) (fs : List RowsOfTask) (os : List DeliveryResult) (f : RowsOfTask) (o : DeliveryResult) → length os ≡ length fs →
    now ≡ run ++ taken_steps fs os → next ≡ now ++ taken_steps (f ∷ []) (o ∷ []) → next ≡ run ++ taken_steps (fs ++ f ∷ []) (os ++ o ∷ [])
steps_more run now next fs os f o same was is =
    is ∙ (ap (λ xs. xs ++ taken_steps (f ∷ []) (o ∷ [])) was
    ∙ (append_assoc run (taken_steps fs os) (taken_steps (f ∷ []) (o ∷ []))
    ∙ ap (λ xs. run ++ xs) (sym (map-append delivery_step (taken_findings fs os) (taken_findings (f ∷ []) (o ∷ []))) ∙ ap (map delivery_step) (sym (taken_more fs os f o same)))))

-- the outcomes of the earlier findings with the outcome of one more
pub outcomes_more : (limit : ℕ) (run now : List BoardStep) (fs : List RowsOfTask) (os : List DeliveryResult) (f : RowsOfTask) (o : DeliveryResult) →
    AreOutcomes limit run fs os → now ≡ run ++ taken_steps fs os → IsOutcome limit now f o → AreOutcomes limit run (fs ++ f ∷ []) (os ++ o ∷ [])
outcomes_more limit run now fs os f o are was is = record {
  count = omega (arith, length-push os o, length-push fs f, are.count);
  each = λ k g p at got. elim (get-push fs f k g at) [
    | inl early ↦
        let low = slice_get_within fs k g early in
        let response : slice_get os k ≡ Some p = sym (get-append os (o ∷ []) k (omega (arith, low, are.count))) ∙ got in
        let left : take k (fs ++ f ∷ []) ≡ take k fs = take-append-le k fs (f ∷ []) (omega (arith, low)) in
        let right : take k (os ++ o ∷ []) ≡ take k os = take-append-le k os (o ∷ []) (omega (arith, low, are.count)) in
        subst (λ xs. IsOutcome limit (run ++ taken_steps xs (take k (os ++ o ∷ []))) g p) (sym left)
        (subst (λ xs. IsOutcome limit (run ++ taken_steps (take k fs) xs) g p) (sym right) (are.each k g p early response))
    | inr last ↦
        let own : o ≡ p = same_Some o p (sym (get-push_last os o) ∙ (ap (slice_get (os ++ o ∷ [])) (are.count ∙ sym last.0) ∙ got)) in
        let left : take k (fs ++ f ∷ []) ≡ fs = ap (λ n. take n (fs ++ f ∷ [])) last.0 ∙ take-push fs f in
        let right : take k (os ++ o ∷ []) ≡ os = ap (λ n. take n (os ++ o ∷ [])) (last.0 ∙ sym are.count) ∙ take-push os o in
        subst (λ xs. IsOutcome limit xs g p) (was ∙ (λ i. run ++ taken_steps (sym left i) (sym right i)))
        (subst (λ x. IsOutcome limit now x p) last.1 (subst (IsOutcome limit now f) own is))
  ];
}

-- the contract of `deliver` for one finding
pub outcome_of : (limit : ℕ) (s next : DeskView) (f : RowsOfTask) (o : DeliveryResult) → After limit s.published s.state →
    WentSo s next f o → IsOutcome limit s.published f o
outcome_of limit s next f (Ok u) after taken_findings = ((s.state, after, ap (λ r. r.0) taken_findings.taken), taken_findings.exact)
outcome_of limit s next f (Err r) after refused = ((s.state, after, refused.refuses), refused.back)

pub steps_of : (s next : DeskView) (f : RowsOfTask) (o : DeliveryResult) → WentSo s next f o →
    next.published ≡ s.published ++ taken_steps (f ∷ []) (o ∷ [])
steps_of s next f (Ok u) taken_findings = taken_findings.published
steps_of s next f (Err r) refused = ap (λ (k : DeskView). k.published) refused.same ∙ sym (append-nil s.published)

pub none_yet : (limit : ℕ) (run : List BoardStep) (outcomes : List DeliveryResult) → outcomes ≡ [] → AreOutcomes limit run [] outcomes
none_yet limit run outcomes none = record {
  count = ap length none;
  each = λ k f o at got. absurd (none-some f at);
}
