use Rattle.std.proofs.Common.{arith, sym, ap, ◌∙◌, ◌+◌, ◌*◌, ◌<◌, length, get_or, List}
use Rattle.std.proofs.lemmas.List.{get_or-replicate, length-replicate}
use Rattle.claims.specs.Draws.{draws_of, ClaimantView, newcomer}
use Rattle.claims.proofs.Keeps.{total_same}
use Rattle.server_tests.proofs.claim_tests.race.Goals as goal

pub returns : goal.returns
returns g c = let q = c.args.question in let made = c.in_ok-made.ensures in let len = ap length made.1 ∙ length-replicate c.args.n (newcomer made.0 c.args.n) in
    sym (c.in_ok-gather.ensures.counts q (omega (arith, c.ranges.question.fits)))
    ∙ total_same (λ (m : ClaimantView). draws_of q m.draws) c.args.draws c.in_ok-drawn.drawn.items
    (λ i d lt. let there : i < c.args.n = omega (arith, len, c.in_ok-drawn.ensures.len) in
    c.in_ok-drawn.ensures.drawn i d (omega (arith, len)) ∙ ap (λ (cs : List ClaimantView). draws_of q (get_or cs i d).draws + c.args.draws) made.1
    ∙ ap (λ (m : ClaimantView). draws_of q m.draws + c.args.draws) (get_or-replicate c.args.n i (newcomer made.0 c.args.n) d there) ∙ omega arith)
    ∙ ap (λ n. n * c.args.draws) (c.in_ok-drawn.ensures.len ∙ len)
