use Rattle.std.proofs.Common.{◌≡◌, ◌+◌, arith, length}
use Rattle.board.proofs.Showing.{next_shows}
use Rattle.board.proofs.board_state.BoardState.follow.Goals as goal

pub invariant_of-self : goal.invariant_of-self
invariant_of-self g c =
    let both = c.longer-longer.ensures in
    let (step, ends, counts) = c.next.invariant in
    let one : length c.next.inside.prefix ≡ length c.self.inside.prefix + 1 = omega arith in
    let ours = c.self.inside.prefix in
    let theirs = c.next.inside.prefix in
    let legal = c.len-theirs.ensures.legal in
    rw (c.add.ensures, c.again.ensures.same, counts)
    (next_shows c.self.inside.summary ours theirs c.longer-longer.result ends.0 step
    c.self.invariant legal ends.1 both.own both.others one)
