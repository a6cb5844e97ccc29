use Rattle.std.proofs.Common.{subst}
use Rattle.wellformed.specs.FirstUnlawful.{IsPassage}
use Rattle.offline_report.proofs.opening.admit.Goals as goal

pub returns-in-Ok-None : goal.returns-in-Ok-None
returns-in-Ok-None c = record { ok = subst (IsPassage c.args.events.now) c.in-Ok-None.field-0-is c.in-Ok-None.ensures; refused = tt }

pub returns-in-Ok-Some : goal.returns-in-Ok-Some
returns-in-Ok-Some c = record { ok = tt; refused = subst (IsPassage c.args.events.now) c.in-Ok-Some.field-0-is c.in-Ok-Some.ensures }

pub returns-in-Err : goal.returns-in-Err
returns-in-Err c = record { ok = tt; refused = tt }
