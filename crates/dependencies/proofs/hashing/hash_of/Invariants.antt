use Rattle.std.proofs.Common.{◌≡◌, drop, fold}
use Rattle.std.specs.List.{flat_map}
use Rattle.std.specs.Hash as fed
use Rattle.std.specs.Hash.DefaultHasher as sip
use Rattle.dependencies.proofs.hashing.hash_of.Given as goal

-- the words that are left give the rest of the hash
abbrev pub invariant-loop-lock : goal.invariant-loop-lock
invariant-loop-lock l =
    fold sip.write l.hasher (flat_map fed.u64 (drop l.lock-index l.dependency.held)) ≡ fold sip.write l.initial.hasher (flat_map fed.u64 l.dependency.held)
