use Rattle.std.proofs.Common.{rules}
use Rattle.sessions.proofs.Puts.{kept_beside, kept_then}
use Rattle.sessions.proofs.streams.WriteSinkSink.send.Goals as goal

pub returns-in-Ok : goal.returns-in-Ok
returns-in-Ok g c = record {
  all = search rules;
  kept = kept_then _ _ _ c.empty.ensures.kept (kept_beside _ _ _ c.flush_all.ensures);
  ok = search rules;
  failed = tt;
}

pub returns-in-Err : goal.returns-in-Err
returns-in-Err g c = record {
  all = tt;
  kept = kept_then _ _ _ c.empty.ensures.kept (kept_beside _ _ _ c.flush_all.ensures);
  ok = tt;
  failed = search rules;
}
