use Rattle.std.proofs.Common.{suc}
use Rattle.std.specs.Option.{option_map_or}
use Rattle.segments.proofs.Followed.{IsFollowed}
use Rattle.segments.proofs.numbered.list.PlacesOf.copy_to.Given as goal

abbrev pub invariant-loop-at : goal.invariant-loop-at
invariant-loop-at l = IsFollowed l.self-inside.list.notes.now.0 l.self-inside.list.number l.at l.places.items

abbrev pub decreases-loop-at : goal.decreases-loop-at
decreases-loop-at l = option_map_or (λ i. suc i) l.at 0
