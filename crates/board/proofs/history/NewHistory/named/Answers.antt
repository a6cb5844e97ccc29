use Rattle.std.proofs.Common.{[], length, refl, ap, sym, subst}
use Rattle.trace_model.specs.declared.limits.TheConstants.{MAX_EVENTS}
use Rattle.trace_model.specs.Protocol.Machine.{opening}
use Rattle.trace_model.specs.Protocol.Runs.{IsLegal}
use Rattle.board.proofs.history.NewHistory.named.Goals as goal

-- the empty list is a legal run
nothing : IsLegal []
nothing = (opening MAX_EVENTS, refl)

pub invariant_of-prefix : goal.invariant_of-prefix
invariant_of-prefix g c =
    (ap length (sym c.args.self.empty), c.requires, subst IsLegal (sym c.args.self.empty) nothing)
