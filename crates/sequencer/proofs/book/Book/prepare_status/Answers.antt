use Rattle.std.proofs.Common.{inl, refl}
use Rattle.trace_model.specs.declared.refusal.Refusal.TheVariants.{NoSuchQuestion}
use Rattle.sequencer.proofs.book.Book.prepare_status.Goals as goal

pub returns-in_default : goal.returns-in_default
returns-in_default c =
    let none = c.in_default.ensures.refused in
    record { ok = tt; refused = inl (λ i. (none i, c.args.self.now.state)); refusal = (NoSuchQuestion, refl, inl none) }

pub returns : goal.returns
returns c = record { ok = (refl, record { reply_is = c.in-Ok.ensures.ok; accepted = tt; room = tt }); refused = tt; refusal = tt }
