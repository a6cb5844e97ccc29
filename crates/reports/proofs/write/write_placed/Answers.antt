use Rattle.std.proofs.Common.{◌≡◌, take, flat_map, ap, sym, subst, ◌∙◌, arith}
use Rattle.std.specs.List.{zip}
use Rattle.std.proofs.lemmas.List.{take_all}
use Rattle.std.proofs.lemmas.Slice.Zip.{length-zip}
use Rattle.reports.specs.Text.{placed_line}
use Rattle.reports.specs.Sinks.{AppendsText}
use Rattle.reports.proofs.Pairs.{at_place, pair_more}
use Rattle.reports.proofs.Sinks.{adds_next, lacks_one}
use Rattle.reports.proofs.write.write_placed.Goals as goal

pub returns-in_err-write_placed_line : goal.returns-in_err-write_placed_line
returns-in_err-write_placed_line g c =
    let more = pair_more c.args.dependencies.now c.args.places.now c.loop-i.i c.index-dependencies-i.result c.unwrap.result (omega arith) (omega arith) c.index-dependencies-i.is (at_place c.args.places.now c.loop-i.i c.unwrap.result (sym c.get.ensures ∙ c.unwrap.ensures)) in
    lacks_one g.T.Sink.room _ _ _ placed_line (zip c.args.dependencies.now c.args.places.now) c.loop-i.i _ _ c.from_residual.result c.from_residual.ensures.0
    more.0 (ap placed_line more.1) c.loop-i.invariant c.in_err-write_placed_line.ensures

pub loop-i-preserved : goal.loop-i-preserved
loop-i-preserved g c =
    let more = pair_more c.args.dependencies.now c.args.places.now c.loop-i.i c.index-dependencies-i.result c.unwrap.result (omega arith) (omega arith) c.index-dependencies-i.is (at_place c.args.places.now c.loop-i.i c.unwrap.result (sym c.get.ensures ∙ c.unwrap.ensures)) in
    adds_next g.T.Sink.room _ _ _ placed_line (zip c.args.dependencies.now c.args.places.now) c.loop-i.i (c.index-dependencies-i.result, c.unwrap.result) more.0 more.1 c.loop-i.invariant c.in_ok-write_placed_line.ensures

pub returns : goal.returns
returns g c =
    let whole : take c.loop-i.i (zip c.args.dependencies.now c.args.places.now) ≡ (zip c.args.dependencies.now c.args.places.now) = take_all _ _ (omega (arith, length-zip c.args.dependencies.now c.args.places.now)) in
    subst (λ pairs. AppendsText g.T.Sink.room c.args.text.now (flat_map placed_line pairs) c.loop-i.text) whole c.loop-i.invariant
