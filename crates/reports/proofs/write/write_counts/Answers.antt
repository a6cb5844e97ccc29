use Rattle.std.proofs.Common.{ℕ, List, ◌++◌, ◌≤◌, length, codes, decimal, refl, length-append, arith}
use Rattle.reports.specs.Text.{counts}
use Rattle.reports.proofs.Sinks.{adds_number, appends_second, lacks_begun, lacks_number}
use Rattle.reports.proofs.write.write_counts.Goals as goal

-- No part is longer than the whole.
parts : (x p d e : List ℕ) → (length x ≤ length (x ++ p ++ d ++ e)) × (length (x ++ p ++ d) ≤ length (x ++ p ++ d ++ e))
parts x p d e =
    let most = length-append (x ++ p ++ d) e in
    let some = length-append (x ++ p) d in
    let first = length-append x p in
    (omega arith, omega arith)

pub returns-in_err-put_number : goal.returns-in_err-put_number
returns-in_err-put_number g c =
    let x = codes " cycles " ++ decimal c.args.cycles in
    lacks_begun g.T.Sink.room _ _ x (counts c.args.cycles c.args.confirmed) _ c.from_residual.ensures.0
    (parts x (codes " confirmed ") (decimal c.args.confirmed) (codes "\n")).0 c.in_err-put_number.ensures

pub returns-in_err-put_number-2 : goal.returns-in_err-put_number-2
returns-in_err-put_number-2 g c =
    let x = codes " cycles " ++ decimal c.args.cycles in
    lacks_number g.T.Sink.room _ _ _ x (codes " confirmed ") (counts c.args.cycles c.args.confirmed) c.args.confirmed c.args.confirmed _ refl
    c.from_residual-in_err-put_number-2.ensures.0 (parts x (codes " confirmed ") (decimal c.args.confirmed) (codes "\n")).1
    c.in_ok-put_number.ensures c.in_err-put_number-2.ensures

pub returns : goal.returns
returns g c =
    let x = codes " cycles " ++ decimal c.args.cycles in
    appends_second g.T.Sink.room _ _ _ (x ++ codes " confirmed " ++ decimal c.args.confirmed) (codes "\n") _
    (adds_number g.T.Sink.room _ _ _ x (codes " confirmed ") c.args.confirmed c.args.confirmed refl c.in_ok-put_number.ensures c.in_ok-put_number-2.ensures) c.put.ensures
