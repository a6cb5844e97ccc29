use Rattle.std.proofs.Common.{◌∙◌}
use Rattle.reports.proofs.numeral_cache.NumeralCache.up_to.Goals as goal
