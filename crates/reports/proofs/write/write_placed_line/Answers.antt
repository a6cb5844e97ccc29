use Rattle.std.proofs.Common.{◌≡◌, ℕ, ◌+◌, ◌≤◌, List, ◌++◌, length, codes, decimal, append_assoc, length-append, subst, sym, ◌∙◌, arith}
use Rattle.reports.specs.Text.{member, placed_line}
use Rattle.reports.specs.Sinks.{AppendsText}
use Rattle.reports.proofs.Sinks.{adds_both, appends_second, lacks_part, lacks_begun}
use Rattle.reports.proofs.write.write_placed_line.Goals as goal

-- No part is longer than the whole.
parts : (m p d n : List ℕ) → (length m ≤ length (m ++ p ++ d ++ n)) × (length m + length (p ++ d) ≤ length (m ++ p ++ d ++ n))
parts m p d n =
    let all = length-append (m ++ p ++ d) n in
    let most = length-append (m ++ p) d in
    let some = length-append m p in
    let last = length-append p d in
    (omega arith, omega arith)

pub returns : goal.returns
returns g c =
    let m = member c.args.dependency.now in
    let same : c.from.result ≡ c.args.place = c.from.ensures ∙ c.get.ensures in
    let both = adds_both g.T.Sink.room _ _ _ m (codes " place " ++ decimal c.args.place) c.in_ok-write_member.ensures (rw same at c.in_ok-put_number.ensures) in
    appends_second g.T.Sink.room _ _ _ (m ++ codes " place " ++ decimal c.args.place) (codes "\n") _
    (subst (λ t. AppendsText g.T.Sink.room c.args.text.now t c.put_number.new.self) (sym (append_assoc m (codes " place ") (decimal c.args.place))) both) c.put.ensures

pub returns-in_err-write_member : goal.returns-in_err-write_member
returns-in_err-write_member g c =
    let m = member c.args.dependency.now in
    lacks_begun g.T.Sink.room _ _ m (placed_line (c.args.dependency.now, c.args.place)) _ c.from_residual.ensures.0
    (parts m (codes " place ") (decimal c.args.place) (codes "\n")).0 c.in_err-write_member.ensures

pub returns-in_err-put_number : goal.returns-in_err-put_number
returns-in_err-put_number g c =
    let m = member c.args.dependency.now in
    let same : c.from.result ≡ c.args.place = c.from.ensures ∙ c.get.ensures in
    lacks_part g.T.Sink.room _ _ _ m (codes " place " ++ decimal c.args.place) (placed_line (c.args.dependency.now, c.args.place)) _ c.from_residual-in_err-put_number.ensures.0
    (parts m (codes " place ") (decimal c.args.place) (codes "\n")).1 c.in_ok-write_member.ensures (rw same at c.in_err-put_number.ensures)
