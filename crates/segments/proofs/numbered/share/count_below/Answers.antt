use Rattle.std.proofs.Common.{◌≡◌, ◌<◌, ◌+◌, ◌-◌, ◌/◌, inl, inr, slice_get, Some, sym, ap, ◌∙◌, arith}
use Rattle.std.proofs.lemmas.Bool.{cases_eq}
use Rattle.std.proofs.lemmas.Option.{same_Some}
use Rattle.segments.specs.Notes.{pairs_of}
use Rattle.segments.proofs.Below.{first_below, earlier_lower}
use Rattle.segments.proofs.Noted.{get_pair}
use Rattle.segments.proofs.numbered.share.count_below.Goals as goal

pub loop-low-preserved-then-get-bound : goal.loop-low-preserved-then-get-bound
loop-low-preserved-then-get-bound c =
    let notes = pairs_of c.args.notes.now.0 in
    let middle = c.loop-low.low + (c.loop-low.high - c.loop-low.low) / 2 in
    let x = c.in-Some.note in
    let here : slice_get notes middle ≡ Some (x.number, x.place) = get_pair c.args.notes.now.0 middle x (sym c.in-Some.ensures) in
    let low = c.if-get-bound.true in
    let place = c.get-in-loop-low.ensures in
    let more = c.loop-low-test.true in
    record {
      in_order = omega arith;
      within = c.loop-low.invariant.within;
      first = λ i e l h. elim (cases_eq i middle) [
        | inl same ↦
            let it : (x.number, x.place) ≡ e = same_Some (x.number, x.place) e (sym here ∙ ap (slice_get notes) (sym same) ∙ h) in
            let q : x.place ≡ e.1 = ap (λ z. z.1) it in
            omega arith
        | inr other ↦
            let less : i < middle = omega arith in
            let lower = earlier_lower notes i middle e (x.number, x.place) c.requires.ascend less h here in
            omega arith
      ];
      rest = c.loop-low.invariant.rest;
    }

pub loop-low-preserved : goal.loop-low-preserved
loop-low-preserved c =
    let notes = pairs_of c.args.notes.now.0 in
    let middle = c.loop-low.low + (c.loop-low.high - c.loop-low.low) / 2 in
    let x = c.in-Some.note in
    let here : slice_get notes middle ≡ Some (x.number, x.place) = get_pair c.args.notes.now.0 middle x (sym c.in-Some.ensures) in
    let high = c.if-get-bound.false in
    let place = c.get-in-loop-low.ensures in
    let more = c.loop-low-test.true in
    let within = c.loop-low.invariant.within in
    record {
      in_order = omega arith;
      within = omega arith;
      first = c.loop-low.invariant.first;
      rest = λ i e l h. elim (cases_eq i middle) [
        | inl same ↦
            let it : (x.number, x.place) ≡ e = same_Some (x.number, x.place) e (sym here ∙ ap (slice_get notes) (sym same) ∙ h) in
            let q : x.place ≡ e.1 = ap (λ z. z.1) it in
            omega arith
        | inr other ↦
            let less : middle < i = omega arith in
            let lower = earlier_lower notes middle i (x.number, x.place) e c.requires.ascend less here h in
            omega arith
      ];
    }

pub returns-clause-first : goal.returns-clause-first
returns-clause-first c =
    let notes = pairs_of c.args.notes.now.0 in
    let a = c.loop-low-test.false in
    let b = c.loop-low.invariant.in_order in
    first_below c.args.bound c.loop-low.low notes c.loop-low.invariant.first
    (λ i e l h. c.loop-low.invariant.rest i e (omega arith) h)
