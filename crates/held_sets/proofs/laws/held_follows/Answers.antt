use Rattle.held_sets.proofs.Follow.{tables_follow, tables_grow}
use Rattle.held_sets.proofs.laws.held_follows.Goals as goal

pub returns : goal.returns
returns c = record { follow = tables_follow; grow = tables_grow }
