use Rattle.std.proofs.Common.{sym, ◌∙◌}
use Rattle.event_frames.proofs.Headers.{unknown_kind}
use Rattle.event_frames.proofs.leading.header_fault.Goals as goal

pub returns-then-not-is_kind : goal.returns-then-not-is_kind
returns-then-not-is_kind c =
    unknown_kind c.args.bytes.now c.from_be_bytes-len.result c.in-len3-up.len_at_least c.from_be_bytes-len.ensures c.if-len-eq0.false (sym c.is_kind.ensures ∙ c.if-not-is_kind.true)
