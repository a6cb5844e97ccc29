use Rattle.std.proofs.Common.{nat_eq}
use Rattle.std.proofs.lemmas.Bool.{false≢true}
use Rattle.std.proofs.lemmas.Option.{slice_get_within}
use Rattle.std.specs.HashMap.{get}
use Rattle.trace_model.specs.Theory.Held.{BeginsOn}
use Rattle.replay.proofs.Lists.{not_decided}
use Rattle.replay.proofs.LastPlaces.{kept_some, kept_none, last_open, open_last}
use Rattle.replay.proofs.order_rules.Known.leaves_open.Goals as goal

pub is_closed-requires-clause-in_trace : goal.is_closed-requires-clause-in_trace
is_closed-requires-clause-in_trace c =
    let k = c.args.self.now in
    let z = kept_some k.passed.now (λ key u. BeginsOn k.trace.now u key) (get nat_eq k.walked.now.acquires) c.requires.1.acquires c.args.lock c.in-Some.place c.in-Some.ensures in
    slice_get_within k.trace.now c.in-Some.place _ z.2.1.0

pub returns-in-Some : goal.returns-in-Some
returns-in-Some c =
    let k = c.args.self.now in
    let p = c.in-Some.place in
    let z = kept_some k.passed.now (λ key u. BeginsOn k.trace.now u key) (get nat_eq k.walked.now.acquires) c.requires.1.acquires c.args.lock p c.in-Some.ensures in
    let n = not_decided c.is_closed.result _ c.is_closed.ensures in
    (λ h. open_last k.trace.now k.passed.now c.args.lock p z (n.0 h), λ o. n.1 (last_open k.trace.now k.passed.now c.requires.1.walked c.args.lock p z o))

pub returns-in-None : goal.returns-in-None
returns-in-None c =
    let k = c.args.self.now in
    let n = kept_none k.passed.now (λ key u. BeginsOn k.trace.now u key) (get nat_eq k.walked.now.acquires) c.requires.1.acquires c.args.lock c.in-None.ensures in
    (λ h. absurd (false≢true h), λ (p, i, (b, m)). absurd (n p b i))
