use Rattle.std.proofs.lemmas.Option.{MatchOption-at_none}
use Rattle.event_files.proofs.witness_file.reach.Goals as goal

pub returns-in-None : goal.returns-in-None
returns-in-None c = λ instance is.
    let never = MatchOption-at_none _ _ c.in-None.is c.in_ok-places.ensures in
    never instance is.0
