use Rattle.desk.proofs.Responses.{status_none, status_some}
use Rattle.desk.proofs.client.status_in.Goals as goal

pub returns-in-Some : goal.returns-in-Some
returns-in-Some c = record {
  shown = λ counts shows. status_some c.args.summary.now counts c.args.question c.in-Some.asked c.question.result c.question.ensures c.in-Some.is shows;
  fits = tt;
}

pub returns-in-None : goal.returns-in-None
returns-in-None c = record {
  shown = λ counts shows. status_none c.args.summary.now counts c.args.question c.question.result c.question.ensures c.in-None.is shows;
  fits = tt;
}
