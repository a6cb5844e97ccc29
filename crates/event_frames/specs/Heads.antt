-- A reply frame in two parts (this project's profile).
use Rattle.std.specs.Prelude.{ℕ, List, []}
use Rattle.trace_model.specs.declared.messages.session.Reply.{Reply}
use Rattle.trace_model.specs.declared.messages.session.Reply.TheVariants.{Report}

-- The text of a report, with which its frame ends. Another frame has none.
abbrev pub frame_text : Reply → List ℕ
frame_text (Report question text) = text
frame_text _ = []
