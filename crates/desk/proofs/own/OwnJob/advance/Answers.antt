use Rattle.std.proofs.Common.{sym, subst}
use Rattle.findings.specs.Found.{AskedQuestion}
use Rattle.findings.specs.TaskSearches.{IsTaskSearch}
use Rattle.desk.proofs.own.OwnJob.advance.Goals as goal

pub advance-requires : goal.advance-requires
advance-requires g c = record {
  search = subst (λ (q : AskedQuestion). IsTaskSearch q.events q.bound c.args.search) (sym c.self.view_is) c.requires.search;
}
