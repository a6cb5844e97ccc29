use Rattle.std.proofs.Common.{Some, sym, ap, subst, ◌∙◌, slice_set, true, arith}
use Rattle.std.proofs.lemmas.Option.{slice_get_within}
use Rattle.std.proofs.lemmas.List.{length-map}
use Rattle.std.proofs.lemmas.List.Sums.{count_by-le-length}
use Rattle.std.proofs.Math.ListN.{length-set}
use Rattle.result_ledger.specs.Tasks.{IsMissing}
use Rattle.result_ledger.proofs.TaskList.{counted_more, ledger_with, marked_ledger, own_rows}
use Rattle.result_ledger.proofs.ledger.Ledger.accept.Goals as goal

pub index_mut-requires : goal.index_mut-requires
index_mut-requires c =
    let b = c.self.inside in
    let own = own_rows b.marks.items b.rows.items b.shared b.delivered b.missing c.args.task c.self.invariant (subst (λ ts. IsMissing ts c.args.task) (sym c.self.view_is) c.in-Ok.ensures) in
    omega (arith, slice_get_within b.marks.items c.args.task _ own.2, own.1.long, length-map b.rows.items (λ rows. rows.items), b.rows.ok)

pub index_mut-requires-in-Ok : goal.index_mut-requires-in-Ok
index_mut-requires-in-Ok c =
    let b = c.self.inside in
    let own = own_rows b.marks.items b.rows.items b.shared b.delivered b.missing c.args.task c.self.invariant (subst (λ ts. IsMissing ts c.args.task) (sym c.self.view_is) c.in-Ok.ensures) in
    omega (arith, slice_get_within b.marks.items c.args.task _ own.2, b.marks.ok)

pub overflow_add-self : goal.overflow_add-self
overflow_add-self c =
    let b = c.self.inside in
    let own = own_rows b.marks.items b.rows.items b.shared b.delivered b.missing c.args.task c.self.invariant (subst (λ ts. IsMissing ts c.args.task) (sym c.self.view_is) c.in-Ok.ensures) in
    omega (arith, own.1.counted, counted_more b.marks.items c.args.task own.2, count_by-le-length (λ m. m) (slice_set b.marks.items c.args.task true), length-set b.marks.items c.args.task true, own.1.long, own.1.short)

pub invariant_of-self : goal.invariant_of-self
invariant_of-self c =
    let b = c.self.inside in
    marked_ledger b.marks.items b.rows.items b.shared b.delivered b.missing c.args.task c.first_false-self-inside.result c.args.rows c.as_slice.result.now
    c.self.invariant (subst (λ ts. IsMissing ts c.args.task) (sym c.self.view_is) c.in-Ok.ensures) c.as_slice.ensures.value
    c.first_false-self-inside.ensures.within c.first_false-self-inside.ensures.before c.first_false-self-inside.ensures.first

pub returns-in-Ok : goal.returns-in-Ok
returns-in-Ok c =
    let b = c.self.inside in
    let missing = subst (λ ts. IsMissing ts c.args.task) (sym c.self.view_is) c.in-Ok.ensures in (
      c.in-Ok.ensures,
      ledger_with b.marks.items b.rows.items b.shared b.delivered b.missing c.args.task c.args.rows c.self.invariant missing
          ∙ ap (λ tasks. slice_set tasks c.args.task (Some c.args.rows.items)) c.self.view_is,
    )
