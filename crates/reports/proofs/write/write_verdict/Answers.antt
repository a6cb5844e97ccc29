use Rattle.std.proofs.Common.{◌++◌, codes, flat_map, sym, arith}
use Rattle.std.specs.List.{zip}
use Rattle.std.proofs.lemmas.Grind.{common_steps}
use Rattle.reports.specs.Text.{member_line, placed_line}
use Rattle.reports.proofs.Sinks.{adds_both, appends_second, lacks_begun}
use Rattle.reports.proofs.write.write_verdict.Goals as goal

pub returns-in_ok-put-in-None : goal.returns-in_ok-put-in-None
returns-in_ok-put-in-None g c =
    rw c.in-None.is (appends_second g.T.Sink.room _ _ _ (codes " potential\n") (flat_map member_line c.args.dependencies.now) c.write_members.result c.in_ok-put-in-None.ensures c.write_members.ensures)

pub returns-in_err-put-in-None : goal.returns-in_err-put-in-None
returns-in_err-put-in-None g c =
    rw c.in-None.is (lacks_begun g.T.Sink.room _ _ (codes " potential\n") (codes " potential\n" ++ flat_map member_line c.args.dependencies.now) _ c.from_residual.ensures.0
    (omega arith) c.in_err-put-in-None.ensures)

pub returns-in_err-put-in-Some : goal.returns-in_err-put-in-Some
returns-in_err-put-in-Some g c = grind (arith, common_steps)

pub returns-in_err-write_placed-in-Some : goal.returns-in_err-write_placed-in-Some
returns-in_err-write_placed-in-Some g c = grind (arith, common_steps)

pub returns-in_ok-write_placed-in-Some : goal.returns-in_ok-write_placed-in-Some
returns-in_ok-write_placed-in-Some g c =
    let lines = flat_map placed_line (zip c.args.dependencies.now c.found.inside.places) in
    rw c.in-Some.is (rw (sym c.found.view_is) (appends_second g.T.Sink.room _ _ _ (codes " confirmed\n" ++ lines) (codes "  witness") _
    (adds_both g.T.Sink.room _ _ _ (codes " confirmed\n") lines c.in_ok-put-in-Some.ensures c.in_ok-write_placed-in-Some.ensures) c.put-in-Some-2.ensures))
