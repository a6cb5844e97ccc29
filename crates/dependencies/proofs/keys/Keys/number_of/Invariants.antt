use Rattle.std.proofs.Common.{◌≡◌, ℕ, suc, length, slice_get, Some}
use Rattle.std.specs.Option.{option_map_or}
use Rattle.trace_model.specs.Theory.Dependencies.{same_dependency}
use Rattle.dependencies.specs.HashedNumbers.{last_passing}
use Rattle.dependencies.proofs.Hashed.{last_up_to}
use Rattle.dependencies.proofs.keys.Keys.number_of.Given as goal

abbrev pub invariant-loop-at : goal.invariant-loop-at
invariant-loop-at l = record {
  here : (m : ℕ) → l.at ≡ Some m → slice_get l.self-inside.numbers.hashes m ≡ Some l.hash;
  left : last_up_to (same_dependency l.dependency) l.self.keys l.at ≡ last_passing (same_dependency l.dependency) l.self.keys (length l.self.keys);
}

abbrev pub decreases-loop-at : goal.decreases-loop-at
decreases-loop-at l = option_map_or (λ i. suc i) l.at 0
