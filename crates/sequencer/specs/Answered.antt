-- The reply to a request, whose report may not be in memory (this project's profile).
use Rattle.std.specs.Prelude.{◌++◌}
use Rattle.trace_model.specs.declared.messages.session.Reply.{Reply}
use Rattle.trace_model.specs.declared.messages.session.Reply.TheVariants as replies
use Rattle.sequencer.specs.declared.answered.Answered.{Answered}
use Rattle.sequencer.specs.declared.answered.Answered.TheVariants.{Whole, Report}

-- the reply
abbrev pub reply_in : Answered → Reply
reply_in (Whole reply) = reply
reply_in (Report report) = replies.Report report.question (report.first_line.items ++ report.rows)
