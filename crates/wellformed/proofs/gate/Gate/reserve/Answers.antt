use Rattle.std.proofs.Common.{arith, refl}
use Rattle.std.proofs.lemmas.Result.{IfOk-from_err}
use Rattle.wellformed.proofs.gate.Gate.reserve.Goals as goal

pub invariant_of-self-in_err-reserve-2 : goal.invariant_of-self-in_err-reserve-2
invariant_of-self-in_err-reserve-2 c =
    let i = c.self.invariant in
    rw c.reserve.ensures.items (record {
      within = i.within;
      small = i.small;
      follow = c.reserve-2.ensures.follow _ i.follow;
      entries = λ e h. c.reserve-2.ensures.kept e (i.entries e h);
      room = λ e h. omega (arith, i.room e h, c.reserve.ensures.len, c.reserve.ensures.capacity);
    })

pub returns-in_err-reserve-clause-ok : goal.returns-in_err-reserve-clause-ok
returns-in_err-reserve-clause-ok c = IfOk-from_err c.from_residual.result _ c.from_residual.ensures.0

pub returns-in_err-reserve-2-clause-ok : goal.returns-in_err-reserve-2-clause-ok
returns-in_err-reserve-2-clause-ok c = IfOk-from_err c.from_residual-in_err-reserve-2.result _ c.from_residual-in_err-reserve-2.ensures.0

pub returns-clause-ok : goal.returns-clause-ok
returns-clause-ok c = refl
