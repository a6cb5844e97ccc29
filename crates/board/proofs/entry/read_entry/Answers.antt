use Rattle.board.proofs.Publishing.{entering}
use Rattle.board.proofs.entry.read_entry.Goals as goal

pub enter_as-requires : goal.enter_as-requires
enter_as-requires g c = entering g.K.KnownCount.count c.in-Some.entering.place.id _
