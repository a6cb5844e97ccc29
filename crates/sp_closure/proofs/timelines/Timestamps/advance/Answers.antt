use Rattle.std.proofs.Common.{Some, None, get_or, sym, subst}
use Rattle.sp_closure.specs.Timestamps.{StayFrom}
use Rattle.std.proofs.lemmas.Option.{slice_get-get_or}
use Rattle.sp_closure.proofs.TimelineLemmas.{one_moved}
use Rattle.sp_closure.proofs.timelines.Timestamps.advance.Goals as goal

pub returns-in_err-entry-clause-from : goal.returns-in_err-entry-clause-from
returns-in_err-entry-clause-from c =
    let xs = c.args.numbers.now in
    let es = c.args.entries.now in
    let j = c.args.j in
    subst (StayFrom c.args.self.now xs es) (sym c.from_residual.ensures)
    (one_moved c.args.self.now xs es c.args.by j (get_or xs j 0) (get_or es j 0) None (slice_get-get_or xs j 0 c.requires.of.0) (slice_get-get_or es j 0 c.requires.of.1) c.requires.from
    c.requires.held c.in_err-entry.ensures)

pub returns-clause-from : goal.returns-clause-from
returns-clause-from c =
    let xs = c.args.numbers.now in
    let es = c.args.entries.now in
    let j = c.args.j in
    one_moved c.args.self.now xs es c.args.by j (get_or xs j 0) (get_or es j 0) (Some c.in_ok-entry.entry) (slice_get-get_or xs j 0 c.requires.of.0) (slice_get-get_or es j 0 c.requires.of.1)
    c.requires.from c.requires.held c.in_ok-entry.ensures
