use Rattle.std.proofs.Common.{refl}
use Rattle.segments.proofs.maybe_index.MaybeIndex.none.Goals as goal

pub returns : goal.returns
returns c = refl
