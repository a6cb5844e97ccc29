use Rattle.std.proofs.Common.{ap}
use Rattle.std.specs.Map.{lookup}
use Rattle.trace_index.specs.Links.{same_key}
use Rattle.trace_index.proofs.places.Places.new.Goals as goal

pub returns : goal.returns
returns c = λ q. ap (λ es. lookup (same_key q) es) c.with_hasher.ensures.empty
