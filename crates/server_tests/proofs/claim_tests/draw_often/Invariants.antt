use Rattle.std.proofs.Common.{◌≡◌, ◌+◌, ◌≤◌, length}
use Rattle.claims.specs.Draws.{draws_of}
use Rattle.server_tests.proofs.claim_tests.draw_often.Given as goal

abbrev pub invariant-loop : goal.invariant-loop
invariant-loop l = record {
  same : (l.claimant.call ≡ l.fn.claimant.call) × (l.claimant.claimants ≡ l.fn.claimant.claimants);
  of_question : draws_of l.question l.claimant.draws ≡ draws_of l.question l.fn.claimant.draws + l.counter;
  in_all : length l.claimant.draws ≡ length l.fn.claimant.draws + l.counter;
  within : l.counter ≤ l.draws;
}
