use Rattle.std.proofs.Common.{length, ap, arith}
use Rattle.std.proofs.lemmas.Bool.{false≢true}
use Rattle.std.proofs.lemmas.Result.{IfOk-from_err, on_ok_weaker}
use Rattle.event_frames.proofs.Bodies.{status_put}
use Rattle.event_frames.proofs.replies.put_status.Goals as goal

pub returns-in_err-put_words : goal.returns-in_err-put_words
returns-in_err-put_words c = record {
  ok = IfOk-from_err c.from_residual.result _ c.from_residual.ensures.0;
  room = λ room. absurd (false≢true (c.in_err-put_words.ensures.room (omega (arith, room))));
}

pub returns-in_err-extend_from_slice : goal.returns-in_err-extend_from_slice
returns-in_err-extend_from_slice c = record {
  ok = IfOk-from_err c.from_residual-in_err-extend_from_slice.result _ c.from_residual-in_err-extend_from_slice.ensures.0;
  room = λ room. absurd (omega (arith, room, c.in_ok-put_words.ensures.kept, c.in_ok-put_words.ensures.len, ap length c.to_be_bytes.ensures, c.in_err-extend_from_slice.ensures.full));
}

pub returns-in_err-push : goal.returns-in_err-push
returns-in_err-push c = record {
  ok = IfOk-from_err c.from_residual-in_err-push.result _ c.from_residual-in_err-push.ensures.0;
  room = λ room.
      absurd (omega (
        arith,
        room,
        c.in_ok-put_words.ensures.kept,
        c.in_ok-put_words.ensures.len,
        c.in_ok-extend_from_slice.ensures.len,
        c.in_ok-extend_from_slice.ensures.capacity,
        ap length c.to_be_bytes.ensures,
        c.in_err-push.ensures.full,
      ));
}

pub returns : goal.returns
returns c = record {
  ok =
      on_ok_weaker c.put_counts.result
      (status_put c.args.out.now.items _ _ _ _ c.args.status.now _ c.get.result c.in_ok-put_words.ensures.ok c.in_ok-extend_from_slice.ensures.items c.to_be_bytes.ensures c.in_ok-push.ensures.items c.get.ensures.value) c.put_counts.ensures.ok;
  room = λ room. c.put_counts.ensures.room (omega (
    arith,
    room,
    c.in_ok-put_words.ensures.kept,
    c.in_ok-put_words.ensures.len,
    c.in_ok-extend_from_slice.ensures.len,
    c.in_ok-extend_from_slice.ensures.capacity,
    ap length c.to_be_bytes.ensures,
    c.in_ok-push.ensures.len,
    c.in_ok-push.ensures.capacity,
  ));
}
