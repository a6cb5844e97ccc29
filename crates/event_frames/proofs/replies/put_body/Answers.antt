use Rattle.std.proofs.Common.{get_or, ap, ◌∙◌, arith}
use Rattle.std.proofs.lemmas.Result.{IfOk-from_err, on_ok_weaker}
use Rattle.trace_model.specs.Protocol.Replies.{reply_body}
use Rattle.event_frames.proofs.Bodies.{headed, length-three_words, length-status_fields}
use Rattle.event_frames.proofs.replies.put_body.Goals as goal

pub returns-in_err-extend_from_slice-clause-ok : goal.returns-in_err-extend_from_slice-clause-ok
returns-in_err-extend_from_slice-clause-ok c = IfOk-from_err c.from_residual.result _ c.from_residual.ensures.0

pub returns-in_err-extend_from_slice-in-Report-clause-ok : goal.returns-in_err-extend_from_slice-in-Report-clause-ok
returns-in_err-extend_from_slice-in-Report-clause-ok c =
    IfOk-from_err c.from_residual-in_err-extend_from_slice-in-Report.result _ c.from_residual-in_err-extend_from_slice-in-Report.ensures.0

pub returns-in-Opened : goal.returns-in-Opened
returns-in-Opened c =
    let reply = c.in-Opened in
    rw c.in-Opened.is (record {
      ok =
          on_ok_weaker c.put_words.result
          (headed c.args.out.now.items _ _ _ c.kind_number.result 67 c.in_ok-extend_from_slice.ensures.items (c.kind_number.ensures ∙ ap (λ r. get_or (reply_body r) 0 0) c.in-Opened.is)) c.put_words.ensures.ok;
      room = λ room. c.put_words.ensures.room (omega (arith, room, length-three_words reply.question reply.length reply.total, c.in_ok-extend_from_slice.ensures.len, c.in_ok-extend_from_slice.ensures.capacity));
    })

pub returns-in-Pending : goal.returns-in-Pending
returns-in-Pending c =
    let reply = c.in-Pending in
    rw c.in-Pending.is (record {
      ok =
          on_ok_weaker c.put_words-in-Pending.result
          (headed c.args.out.now.items _ _ _ c.kind_number.result 68 c.in_ok-extend_from_slice.ensures.items (c.kind_number.ensures ∙ ap (λ r. get_or (reply_body r) 0 0) c.in-Pending.is)) c.put_words-in-Pending.ensures.ok;
      room = λ room. c.put_words-in-Pending.ensures.room (omega (arith, room, length-three_words reply.question reply.delivered reply.total, c.in_ok-extend_from_slice.ensures.len, c.in_ok-extend_from_slice.ensures.capacity));
    })

pub returns-in-Status : goal.returns-in-Status
returns-in-Status c =
    let reply = c.in-Status in
    rw c.in-Status.is (record {
      ok =
          on_ok_weaker c.put_status.result
          (headed c.args.out.now.items _ _ _ c.kind_number.result 70 c.in_ok-extend_from_slice.ensures.items (c.kind_number.ensures ∙ ap (λ r. get_or (reply_body r) 0 0) c.in-Status.is)) c.put_status.ensures.ok;
      room = λ room. c.put_status.ensures.room (omega (arith, room, length-status_fields reply.status, c.in_ok-extend_from_slice.ensures.len, c.in_ok-extend_from_slice.ensures.capacity));
    })
