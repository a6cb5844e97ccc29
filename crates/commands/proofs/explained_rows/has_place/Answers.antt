use Rattle.std.proofs.Common.{arith, inl, inr, sym, subst}
use Rattle.std.proofs.lemmas.Bool.{false≢true}
use Rattle.std.specs.List.{Contains}
use Rattle.trace_model.proofs.Theory.Ascending.{place_of}
use Rattle.commands.proofs.AscendingPlaces.{not_greater}
use Rattle.commands.proofs.RowTests.{less_or_more}
use Rattle.commands.proofs.explained_rows.has_place.Goals as goal

pub loop-low-preserved-then-found-wanted-2 : goal.loop-low-preserved-then-found-wanted-2
loop-low-preserved-then-found-wanted-2 c =
    let v = c.loop-low.invariant in
    record {
      order = omega (arith, c.loop-low-test.true);
      within = v.within;
      below = λ k x below at. omega (arith, c.if-found-wanted-2.true, c.get-found.ensures, not_greater c.args.places.now c.len-high.ensures.ascends k _ x c.get.result (omega (arith, below)) at c.get.ensures);
      above = v.above;
    }

pub loop-low-preserved : goal.loop-low-preserved
loop-low-preserved c =
    let v = c.loop-low.invariant in
    record {
      order = omega (arith, c.loop-low-test.true);
      within = omega (arith, c.loop-low-test.true, v.within);
      below = v.below;
      above = λ k x from at. omega (arith, c.if-found-wanted-2.false, c.if-found-wanted.false, c.get-found.ensures, not_greater c.args.places.now c.len-high.ensures.ascends _ k c.get.result x from c.get.ensures at);
    }

pub returns : goal.returns
returns c = (
  λ t. absurd (false≢true t),
  λ has.
      let wanted = c.get-wanted.result in
      let (k, at) = place_of c.args.places.now wanted (subst (Contains c.args.places.now) (sym c.get-wanted.ensures) has) in
      let v = c.loop-low.invariant in
      elim (less_or_more k c.loop-low.low) [
        | inl less ↦ absurd (omega (arith, v.below k wanted less at))
        | inr more ↦ absurd (omega (arith, v.above k wanted (omega (arith, c.loop-low-test.false, more)) at))
      ],
)
