use Rattle.std.proofs.lemmas.Result.{on_ok_weaker}
use Rattle.event_frames.proofs.Bodies.{put_where_ok, words_put}
use Rattle.event_frames.proofs.replies.put_words.Goals as goal

pub returns-clause-ok : goal.returns-clause-ok
returns-clause-ok c =
    on_ok_weaker c.extend_from_slice-3.result
    (words_put c.args.out.now.items _ _ _ _ _ _ c.args.first c.args.second c.args.third c.to_be_bytes.ensures c.to_be_bytes-2.ensures c.to_be_bytes-3.ensures
    c.in_ok-extend_from_slice.ensures.items c.in_ok-extend_from_slice-2.ensures.items) (put_where_ok c.extend_from_slice-3.result _ _ _ c.extend_from_slice-3.ensures.items)
