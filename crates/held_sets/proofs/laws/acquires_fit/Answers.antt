use Rattle.held_sets.proofs.Follow.{acquires_fit, lawful_acquires_fit}
use Rattle.held_sets.proofs.laws.acquires_fit.Goals as goal

pub returns : goal.returns
returns c = record { placed = acquires_fit; next = lawful_acquires_fit }
