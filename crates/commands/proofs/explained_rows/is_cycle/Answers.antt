use Rattle.std.proofs.Common.{◌∙◌, arith, refl, sym, true≢false}
use borrow.Author.Count.{below_more}
use Rattle.std.proofs.lemmas.Bool.{false≢true}
use Rattle.dependencies.specs.Tables.{table_dependencies}
use Rattle.commands.proofs.RowCycles.{cycle_of_fits, fits_of_cycle}
use Rattle.commands.proofs.explained_rows.is_cycle.Goals as goal

pub returns-then-not-fits : goal.returns-then-not-fits
returns-then-not-fits c = (
  λ t. absurd (false≢true t),
  λ is. absurd (true≢false (sym (c.fits.ensures.1 (fits_of_cycle (table_dependencies c.args.table.now) c.args.numbers.now is c.loop-index.index)) ∙ c.if-not-fits.true)),
)

pub loop-index-preserved : goal.loop-index-preserved
loop-index-preserved c = below_more _ _ c.loop-index.invariant (c.fits.ensures.0 c.if-not-fits.false)

pub returns : goal.returns
returns c = (
  λ t. cycle_of_fits (table_dependencies c.args.table.now) c.args.numbers.now c.requires.some c.requires.few c.requires.known (λ i within. c.loop-index.invariant i (omega (arith, within, c.loop-index-test.false))),
  λ is. refl,
)
