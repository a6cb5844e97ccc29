use Rattle.std.proofs.Common.{nat_eq, refl}
use Rattle.std.proofs.lemmas.Bool.{false≢true}
use Rattle.std.specs.HashMap.{get}
use Rattle.trace_model.specs.declared.traces.event.Op.TheVariants.{Fork}
use Rattle.trace_model.specs.Theory.Trace.{Does}
use Rattle.trace_model.proofs.Theory.Ascending.{contains_at}
use Rattle.replay.proofs.LastPlaces.{kept_some, kept_none}
use Rattle.replay.proofs.order_rules.Known.misses_fork.Goals as goal

pub returns-in-Some : goal.returns-in-Some
returns-in-Some c =
    let k = c.args.self.now in
    let z = kept_some k.passed.now (λ key u. Does k.trace.now u (Fork key)) (get nat_eq k.walked.now.forks) c.requires.1.forks c.args.thread _ c.in-Some.ensures in
    (λ h. absurd (false≢true h), λ n. absurd (n _ (contains_at k.passed.now _ z.0 z.1) z.2))

pub returns-in-None : goal.returns-in-None
returns-in-None c =
    let k = c.args.self.now in
    let n = kept_none k.passed.now (λ key u. Does k.trace.now u (Fork key)) (get nat_eq k.walked.now.forks) c.requires.1.forks c.args.thread c.in-None.ensures in
    (λ _ p k d. n p d k, λ _. refl)
