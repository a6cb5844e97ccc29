use Rattle.std.proofs.Common.{◌≡◌, ◌+◌, ◌-◌, ◌^◌, ◌++◌, take, drop, ap, ◌∙◌, arith}
use Rattle.reports.proofs.Windows.{kept_on}
use Rattle.reports.proofs.piece.Piece.take.Goals as goal

pub returns : goal.returns
returns c = λ taken has.
    let kept = c.args.self.now.text.items in
    let skipped = c.min-skipped.result in
    let count = c.min-count.result in
    let bytes = c.args.bytes.now in
    let on = kept_on (2 ^ 64) 4096 taken bytes kept c.args.self.now.skip skipped count c.remaining_capacity.result has.left has.bytes c.min-skipped.ensures c.min-count.ensures c.remaining_capacity.ensures in
    let most : skipped + count - skipped ≡ count = omega arith in
    record { left = on.0; bytes = c.in-Ok.ensures.ok ∙ ap (λ n. kept ++ take n (drop skipped bytes)) most ∙ on.1 }
