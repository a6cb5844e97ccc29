use Rattle.std.proofs.Common.{◌++◌, codes, sym, append-nil}
use Rattle.fronts.specs.State.{included_places}
use Rattle.reports.specs.Text.{number_list}
use Rattle.reports.proofs.Sinks.{appends_second, lacks_begun, length-begin}
use Rattle.reports.proofs.write.write_witness.Goals as goal

pub returns-in-None : goal.returns-in-None
returns-in-None g c = rw c.in-None.is (λ written has. rw (append-nil written) has)

pub returns-in_ok-write_places-in-Some : goal.returns-in_ok-write_places-in-Some
returns-in_ok-write_places-in-Some g c =
    let numbers = number_list (included_places c.found.inside.witness) in
    rw c.in-Some.is (rw (sym c.found.view_is) (appends_second g.T.Sink.room _ _ _ numbers (codes "\n") _ c.in_ok-write_places-in-Some.ensures c.put.ensures))

pub returns-in_err-write_places-in-Some : goal.returns-in_err-write_places-in-Some
returns-in_err-write_places-in-Some g c =
    let numbers = number_list (included_places c.found.inside.witness) in
    rw c.in-Some.is (rw (sym c.found.view_is) (lacks_begun g.T.Sink.room _ _ numbers (numbers ++ codes "\n") _ c.from_residual.ensures.0
    (length-begin numbers (codes "\n")) c.in_err-write_places-in-Some.ensures))
