use Rattle.std.proofs.Common.{ℕ, ◌<◌, length, take}
use Rattle.std.specs.List.{Contains}
use Rattle.server_tests.proofs.closure_tests.are_in_trace.Given as goal

abbrev pub invariant-loop-place : goal.invariant-loop-place
invariant-loop-place l = (p : ℕ) → Contains (take l.place-index l.places) p → p < length l.index.events
