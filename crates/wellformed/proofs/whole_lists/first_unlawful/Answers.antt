use Rattle.std.proofs.Common.{[], Option, None, Some}
use Rattle.std.proofs.lemmas.Result.{IfOk-weaker}
use Rattle.trace_model.specs.Theory.Trace.{Trace}
use Rattle.wellformed.specs.declared.tables.AdmissionTables.{AdmissionTables}
use Rattle.wellformed.specs.declared.whole_lists.FirstUnlawful.{FirstUnlawful}
use Rattle.wellformed.specs.FirstUnlawful.{Admits, IsPassage}
use Rattle.wellformed.specs.Tables.{FollowEvents}
use Rattle.wellformed.proofs.whole_lists.first_unlawful.Goals as goal

passage : (empty : AdmissionTables) (events : Trace) (tables : AdmissionTables) (first : Option FirstUnlawful) → FollowEvents empty [] → Admits empty events tables first → IsPassage events first
passage empty events tables None f admits = (admits [] f).well_formed
passage empty events tables (Some first) f admits = admits [] f

pub returns : goal.returns
returns c =
    let events = c.args.events.now in
    let tables = c.admit_all.new.self in
    IfOk-weaker c.admit_all.result (Admits c.new.result events tables) (IsPassage events) (λ first. passage c.new.result events tables first c.new.ensures) c.admit_all.ensures
