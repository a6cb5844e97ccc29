-- The facts of one place.
use Rattle.std.specs.Prelude.{◌≡◌, ℕ, slice_get, Some}
use Rattle.trace_model.specs.Theory.Trace.{Trace}
use Rattle.trace_model.specs.Theory.Held.{begun_lock}
use Rattle.trace_model.specs.Theory.Lookups.{writer}
use Rattle.trace_index.specs.declared.facts.PlaceFacts.{PlaceFacts}
use Rattle.trace_index.specs.declared.row.IndexRow.{IndexRow}
use Rattle.trace_index.specs.Numbers.{number_at, thread_before, acquire_before}
use Rattle.trace_index.specs.Links.{written_by, begun_at_depth, taken_before}

-- The trace has the place, and each fact is what the look-up of the same name returns for it.
pub record ArePlaceFacts (s : Trace) (p : ℕ) (facts : PlaceFacts) : Type 0 where
  pub event : slice_get s p ≡ Some facts.event
  pub number : number_at s p ≡ Some facts.number
  pub thread_before : thread_before s p ≡ facts.thread_before
  pub begun : begun_lock s p ≡ facts.begun
  pub acquire_before : acquire_before s p ≡ facts.acquire_before
  pub writer : writer s p ≡ facts.writer

-- The facts are those in a row.
pub record AreRowFacts (row : IndexRow) (facts : PlaceFacts) : Type 0 where
  pub event : facts.event ≡ row.event
  pub number : facts.number ≡ row.number
  pub thread_before : facts.thread_before ≡ row.thread
  pub begun : facts.begun ≡ begun_at_depth row.event.op row.depth
  pub acquire_before : facts.acquire_before ≡ taken_before row.event.op row.depth row.object
  pub writer : facts.writer ≡ written_by row.event.op row.object
