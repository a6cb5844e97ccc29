-- A valid file states only true rows of the trace.
use Rattle.std.proofs.Common.{◌≡◌, ℕ, zero, suc, ◌&&◌, Bool, true, false, List, [], ◌∷◌, ◌∙◌, Option, Some, None, length, map, slice_get, refl, sym, ap, subst, true≢false, inl, inr}
use Rattle.std.specs.Prelude.{if◌then◌else◌}
use Rattle.std.specs.List.{All, AllZip, list_all}
use Rattle.std.proofs.lemmas.List.{length-map}
use Rattle.std.proofs.lemmas.List.Elements.{All-cons, All-head, All-nil, All-tail}
use Rattle.std.proofs.lemmas.Option.{none-some, same_Some, slice_get-map}
use Rattle.trace_model.specs.Theory.Trace.{Trace}
use Rattle.trace_model.specs.Theory.Lawful.{IsWellFormed}
use Rattle.trace_model.specs.Theory.Cycles.{IsInstance}
use Rattle.trace_model.proofs.Theory.Refutation.{refuted_not_confirmed}
use Rattle.event_files.specs.ExplainedText.{IsStatedCycle, StatedCycle, StatedMember}
use Rattle.event_files.specs.declared.explanations.ReportHead.{ReportHead}
use Rattle.replay.specs.declared.refutation_verdict.RefutationVerdict.TheVariants.{Valid, UnknownNumber, WrongStep, AfterEnd, PlaceLeft}
use Rattle.replay.specs.declared.verdict.Verdict.TheVariants.{Reaches, Fails}
use Rattle.replay.proofs.RefutationLaws.{valid_is_refutation}
use Rattle.replay.proofs.Verdicts.{reaches_law}
use Rattle.commands.specs.Check.{IsHeadVerdict, IsTrueHead, IsTrueRow, IsVerdictFor, StatesTruth, ValidFilesAreTrue, is_valid, is_valid_head, steps_in}
use Rattle.commands.specs.ExplainedRows.{IsRowOf}
use Rattle.commands.specs.declared.check_verdicts.HeadVerdict.{HeadVerdict}
use Rattle.commands.specs.declared.check_verdicts.HeadVerdict.TheVariants as heads
use Rattle.commands.specs.declared.check_verdicts.CycleVerdict.{CycleVerdict}
use Rattle.commands.specs.declared.check_verdicts.CycleVerdict.TheVariants.{Row, Witness, NoRefutation, Refutation}
use Rattle.commands.specs.declared.exit.Status.TheVariants.{Done, Refused}

-- What an element of a mapped list comes from.
pub mapped_at : {X Y : Type 0} (f : X → Y) (xs : List X) (i : ℕ) (y : Y) → slice_get (map f xs) i ≡ Some y → (x : X) × (slice_get xs i ≡ Some x) × (f x ≡ y)
mapped_at f [] i y at = absurd (none-some y at)
mapped_at f (x ∷ xs) zero y at = (x, refl, same_Some (f x) y at)
mapped_at f (x ∷ xs) (suc i) y at = mapped_at f xs i y at

-- The places of the members of a row are an instance of its cycle.
instance_is : (s : Trace) (r : StatedCycle) (places : List ℕ) → IsStatedCycle r → IsRowOf s r → map (λ (m : StatedMember). m.place) r.members ≡ map Some places → IsInstance s r.cycle places
instance_is s r places row of same = (
  sized,
  λ i m p d at known here.
      let some = slice_get-map Some places i ∙ ap (λ (o : Option ℕ). elim o as (λ _. Option (Option ℕ)) [ None ↦ None | Some x ↦ Some (Some x) ]) here in
      let (member, there, is) = mapped_at (λ (q : StatedMember). q.place) r.members i (Some p) (ap (λ l. slice_get l i) same ∙ some) in
      let (e, has, number) = of.placed i m at p (member, there, is) in
      has ∙ ap Some (same_Some e d (sym number ∙ known)),
)
  where
    sized : length places ≡ length r.cycle
    sized = sym (length-map places Some) ∙ sym (ap length same) ∙ length-map r.members (λ (m : StatedMember). m.place) ∙ row.each

pub true_row : (s : Trace) → IsWellFormed s → (r : StatedCycle) → IsStatedCycle r → (v : CycleVerdict) → IsVerdictFor s r v → is_valid v ≡ true → IsTrueRow s r
true_row s lawful r row (Row fault) is valid = absurd (true≢false (sym valid))
true_row s lawful r row (Witness Reaches) is valid =
    let (order, instance, proof, placed, reaches) = is.1 in
    let (reorders, enabled, inside) = (reaches_law s lawful order instance).0 reaches in
    (is.0, subst (StatesTruth s r.cycle) (sym proof) (instance, instance_is s r instance row is.0 placed, (order, reorders, enabled)))
true_row s lawful r row (Witness (Fails fault place)) is valid = absurd (true≢false (sym valid))
true_row s lawful r row NoRefutation is valid = absurd (true≢false (sym valid))
true_row s lawful r row (Refutation Valid) is valid =
    let (step, steps, proof, verdict) = is.1 in
    let all = steps_in r.members (step ∷ steps) in
    (is.0, subst (StatesTruth s r.cycle) (sym proof) (refuted_not_confirmed s r.cycle all ((valid_is_refutation s r.cycle all Valid verdict).0 refl)))
true_row s lawful r row (Refutation (UnknownNumber m)) is valid = absurd (true≢false (sym valid))
true_row s lawful r row (Refutation (WrongStep k fault)) is valid = absurd (true≢false (sym valid))
true_row s lawful r row (Refutation (AfterEnd k)) is valid = absurd (true≢false (sym valid))
true_row s lawful r row (Refutation PlaceLeft) is valid = absurd (true≢false (sym valid))

both_true : (a b : Bool) → a && b ≡ true → (a ≡ true) × (b ≡ true)
both_true true true e = (refl, refl)
both_true true false e = absurd (true≢false (sym e))
both_true false b e = absurd (true≢false (sym e))

pub true_rows : (s : Trace) → IsWellFormed s → (rows : List StatedCycle) (verdicts : List CycleVerdict) → All IsStatedCycle rows → AllZip (IsVerdictFor s) rows verdicts → list_all is_valid verdicts ≡ true → All (IsTrueRow s) rows
true_rows s lawful [] [] are each valid = All-nil (IsTrueRow s)
true_rows s lawful [] (v ∷ vs) are each valid = absurd each
true_rows s lawful (r ∷ rs) [] are each valid = absurd each
true_rows s lawful (r ∷ rs) (v ∷ vs) are each valid =
    let (first, rest) = both_true (is_valid v) (list_all is_valid vs) valid in
    All-cons (IsTrueRow s) r rs (true_row s lawful r (All-head IsStatedCycle r rs are) v each.0 first) (true_rows s lawful rs vs (All-tail IsStatedCycle r rs are) each.1 rest)

true_head : (events : ℕ) (rows : List StatedCycle) (h : ReportHead) (v : HeadVerdict) → IsHeadVerdict events rows h v → is_valid_head v ≡ true → IsHeadVerdict events rows h heads.Valid
true_head events rows h (heads.OtherLength n) is valid = absurd (true≢false (sym valid))
true_head events rows h (heads.LongerCycle k) is valid = absurd (true≢false (sym valid))
true_head events rows h (heads.OtherCycles n) is valid = absurd (true≢false (sym valid))
true_head events rows h (heads.OtherConfirmed n) is valid = absurd (true≢false (sym valid))
true_head events rows h heads.Valid is valid = is

pub true_heads : (s : Trace) (rows : List StatedCycle) (hs : List ReportHead) (vs : List HeadVerdict) → AllZip (IsHeadVerdict (length s) rows) hs vs → list_all is_valid_head vs ≡ true → All (IsTrueHead s rows) hs
true_heads s rows [] [] each valid = All-nil (IsTrueHead s rows)
true_heads s rows [] (v ∷ vs) each valid = absurd each
true_heads s rows (h ∷ hs) [] each valid = absurd each
true_heads s rows (h ∷ hs) (v ∷ vs) each valid =
    let (first, rest) = both_true (is_valid_head v) (list_all is_valid_head vs) valid in
    All-cons (IsTrueHead s rows) h hs (true_head (length s) rows h v each.0 first) (true_heads s rows hs vs each.1 rest)

done_is_valid : (a b : Bool) → Done ≡ (if a && b then Done else Refused) → (a ≡ true) × (b ≡ true)
done_is_valid true true e = (refl, refl)
done_is_valid true false e = absurd (cc)
done_is_valid false b e = absurd (cc)

pub valid_files : ValidFilesAreTrue
valid_files trace file text (inl (events, lawful, (f, is, checks))) =
    let (head, rows) = done_is_valid _ _ checks.ended in
    (events, f, lawful, is, true_rows events lawful.1 _ checks.rows is.0.cycles checks.rows_are rows, true_heads events _ _ checks.head checks.head_is head)
valid_files trace file text (inr (events, first, are, unlawful, status, line)) = absurd (cc)
