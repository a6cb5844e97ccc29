use Rattle.board.proofs.Showing.{blank_shows}
use Rattle.board.proofs.board_state.BoardState.opening.Goals as goal

pub invariant_of-result : goal.invariant_of-result
invariant_of-result g c = rw (c.opening.ensures, c.again.ensures.same, c.requires) blank_shows
