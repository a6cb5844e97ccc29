use Rattle.std.proofs.Common.{ℕ, [], Option, sym, ap, subst, ◌∙◌}
use Rattle.smallvec.specs.SmallVec.{SmallVec}
use Rattle.std.specs.List.Sorted.{IsStrictlyIncreasing}
use Rattle.std.specs.Option.{option_map_or}
use Rattle.lock_graph.proofs.graph.LockGraph.at.Goals as goal

pub below-requires : goal.below-requires
below-requires c =
    subst IsStrictlyIncreasing (ap (λ (o : Option (SmallVec ℕ)). option_map_or (λ v. v.items) o []) c.in-Some.ensures.value ∙ sym c.as_slice.ensures)
    (c.requires c.in-Some.field-0-0.now)
