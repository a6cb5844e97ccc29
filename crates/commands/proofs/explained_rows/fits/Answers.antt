use Rattle.std.proofs.Common.{arith}
use Rattle.std.proofs.lemmas.Option.{get_or_from_slice_get}
use Rattle.commands.proofs.explained_rows.fits.Goals as goal

pub returns : goal.returns
returns c =
    let numbers = c.args.numbers.now in (
      λ t. record {
        least = λ first m start at. omega (arith, c.if-numbers-index.false, get_or_from_slice_get numbers 0 first 0 start, get_or_from_slice_get numbers c.args.index m 0 at);
        linked = c.is_linked.ensures.0 c.if-not-is_linked.false;
        apart = c.is_apart.ensures.0 t;
      },
      λ fits. c.is_apart.ensures.1 fits.apart,
    )
