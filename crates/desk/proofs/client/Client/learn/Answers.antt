use Rattle.std.proofs.Common.{refl, rules}
use Rattle.desk.proofs.client.Client.learn.Goals as goal

pub returns : goal.returns
returns g c = record {
  answer = refl;
  later = search rules;
  seen = search rules;
  entered = search rules;
}
