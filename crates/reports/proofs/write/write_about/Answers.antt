use Rattle.std.proofs.Common.{ℕ, List, ◌++◌, ◌≤◌, length, codes, decimal, subst, length-append, arith}
use Rattle.reports.specs.Text.{about}
use Rattle.reports.specs.Sinks.{AppendsText, Lacks}
use Rattle.reports.proofs.Sinks.{adds_number, appends_number, lacks_begun, lacks_number}
use Rattle.reports.proofs.write.write_about.Goals as goal

-- No part is longer than the whole.
parts : (x p d q e : List ℕ) → (length x ≤ length (x ++ p ++ d ++ q ++ e)) × (length (x ++ p ++ d) ≤ length (x ++ p ++ d ++ q ++ e))
parts x p d q e =
    let most = length-append (x ++ p ++ d ++ q) e in
    let some = length-append (x ++ p ++ d) q in
    let few = length-append (x ++ p) d in
    let first = length-append x p in
    (omega arith, omega arith)

pub returns-in_err-put_number : goal.returns-in_err-put_number
returns-in_err-put_number g c =
    let x = codes "question " ++ decimal c.args.question in
    lacks_begun g.T.Sink.room _ _ x (about c.args.question c.args.events c.args.bound) _ c.from_residual.ensures.0
    (parts x (codes " length ") (decimal c.args.events) (codes " bound ") (decimal c.args.bound)).0
    (subst (λ n. Lacks g.T.Sink.room c.args.text.now (codes "question " ++ decimal n)) c.from.ensures c.in_err-put_number.ensures)

pub returns-in_err-put_number-2 : goal.returns-in_err-put_number-2
returns-in_err-put_number-2 g c =
    let x = codes "question " ++ decimal c.args.question in
    lacks_number g.T.Sink.room _ _ _ x (codes " length ") (about c.args.question c.args.events c.args.bound) c.args.events c.from-2.result _ c.from-2.ensures
    c.from_residual-in_err-put_number-2.ensures.0 (parts x (codes " length ") (decimal c.args.events) (codes " bound ") (decimal c.args.bound)).1
    (subst (λ n. AppendsText g.T.Sink.room c.args.text.now (codes "question " ++ decimal n) c.put_number.new.self) c.from.ensures c.in_ok-put_number.ensures) c.in_err-put_number-2.ensures

pub returns : goal.returns
returns g c =
    let x = codes "question " ++ decimal c.args.question in
    let first = subst (λ n. AppendsText g.T.Sink.room c.args.text.now (codes "question " ++ decimal n) c.put_number.new.self) c.from.ensures c.in_ok-put_number.ensures in
    let second = adds_number g.T.Sink.room _ _ _ x (codes " length ") c.args.events c.from-2.result c.from-2.ensures first c.in_ok-put_number-2.ensures in
    appends_number g.T.Sink.room _ _ _ (x ++ codes " length " ++ decimal c.args.events) (codes " bound ") c.args.bound c.from-3.result _ c.from-3.ensures second c.put_number-3.ensures
