use Rattle.std.proofs.Common.{rules}
use Rattle.desk.proofs.locked.publish.Goals as goal

pub returns : goal.returns
returns g c = record {
  published = search rules;
  waiting = search rules;
  receipt = search rules;
}
