use Rattle.std.proofs.Common.{◌≡◌, ◌+◌, suc, ap, arith}
use Rattle.segments.specs.Links.{index_of}
use Rattle.segments.proofs.maybe_index.MaybeIndex.at.Goals as goal

pub returns : goal.returns
returns c =
    let next : c.args.index + 1 ≡ suc c.args.index = omega arith in
    ap index_of next
