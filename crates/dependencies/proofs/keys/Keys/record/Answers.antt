use Rattle.std.proofs.Common.{sym}
use Rattle.dependencies.proofs.Numbering.{with_known}
use Rattle.dependencies.proofs.keys.Keys.record.Goals as goal

pub returns-then-is_at-clause-keys : goal.returns-then-is_at-clause-keys
returns-then-is_at-clause-keys c = sym (with_known c.args.self.now.keys c.args.dependency.now c.candidate-candidate.result (c.is_at.ensures.first c.if-is_at.true))
