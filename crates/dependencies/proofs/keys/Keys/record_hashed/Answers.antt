use Rattle.std.proofs.Common.{sym, ◌∙◌}
use Rattle.dependencies.proofs.Numbering.{with_known, with_unknown}
use Rattle.dependencies.proofs.keys.Keys.record_hashed.Goals as goal

pub returns-in-Some-clause-keys : goal.returns-in-Some-clause-keys
returns-in-Some-clause-keys c = sym (with_known c.args.self.now.keys c.args.dependency.now c.in-Some.number (sym c.in-Some.ensures))

pub returns-in-None-clause-keys : goal.returns-in-None-clause-keys
returns-in-None-clause-keys c = c.add.ensures.keys ∙ sym (with_unknown c.args.self.now.keys c.args.dependency.now (sym c.in-None.ensures))
