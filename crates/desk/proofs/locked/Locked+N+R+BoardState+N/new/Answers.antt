use Rattle.std.proofs.Common.{refl, arith}
use Rattle.std.proofs.lemmas.Bool.{false≢true}
use Rattle.desk.proofs.locked.Locked+N+R+BoardState+N.new.Goals as goal

pub new_board-requires : goal.new_board-requires
new_board-requires g c = record {
  name = c.requires.book;
  readers = (omega (arith, c.if-readers-eq0.false), c.if-readers-gt-MAX_READERS.false);
}

pub returns-in_default : goal.returns-in_default
returns-in_default g c = record {
  published = tt;
  state = tt;
  readers = tt;
  allowed = tt;
  refused = λ allowed. absurd (false≢true (c.in_default.ensures.limit.1 allowed));
}

pub returns-in-Ok-new_board : goal.returns-in-Ok-new_board
returns-in-Ok-new_board g c = record {
  published = c.in-Ok-new_board.ensures.writer.0;
  state = c.in-Ok.ensures.made;
  readers = c.in-Ok-new_board.ensures.readers;
  allowed = (c.in-Ok.ensures.limit.0 refl, (omega (arith, c.if-readers-eq0.false), c.if-readers-gt-MAX_READERS.false));
  refused = tt;
}

pub returns-in-Err : goal.returns-in-Err
returns-in-Err g c = record {
  published = tt;
  state = tt;
  readers = tt;
  allowed = tt;
  refused = (c.in-Ok.ensures.limit.0 refl, (omega (arith, c.if-readers-eq0.false), c.if-readers-gt-MAX_READERS.false));
}
