use Rattle.std.proofs.Common.{nat_eq}
use Rattle.std.proofs.lemmas.Bool.{false≢true, ltb-true, lt-ltb}
use Rattle.std.specs.HashMap.{get}
use Rattle.trace_model.specs.Theory.Held.{BeginsOn}
use Rattle.replay.proofs.LastPlaces.{kept_some, kept_none, last_later, later_last}
use Rattle.replay.proofs.order_rules.Known.has_later.Goals as goal

pub returns-in-Some : goal.returns-in-Some
returns-in-Some c =
    let k = c.args.self.now in
    let o = c.in-Some.other in
    let q = c.args.place in
    let z = kept_some k.passed.now (λ key u. BeginsOn k.trace.now u key) (get nat_eq k.walked.now.acquires) c.requires.1.acquires c.args.lock o c.in-Some.ensures in
    rw (c.get.ensures, c.get-in-Some.ensures) (
      λ h. later_last k.trace.now k.passed.now c.args.lock o q z (ltb-true q o h),
      λ m. lt-ltb q o (last_later k.trace.now k.passed.now c.requires.1.walked c.args.lock o q z m),
    )

pub returns-in-None : goal.returns-in-None
returns-in-None c =
    let k = c.args.self.now in
    let n = kept_none k.passed.now (λ key u. BeginsOn k.trace.now u key) (get nat_eq k.walked.now.acquires) c.requires.1.acquires c.args.lock c.in-None.ensures in
    (λ h. absurd (false≢true h), λ (p, i, b, m). absurd (n p b i))
