-- Keyed hashes of dependencies.
use Rattle.std.specs.Prelude.{ℕ, ◌*◌, ◌+◌, ◌%◌, List, ◌∷◌, fold}
use Rattle.std.specs.List.{flat_map}
use Rattle.std.specs.Hash as fed
use Rattle.std.specs.Hash.DefaultHasher as sip
use Rattle.std.specs.RandomState.{initial_hasher}
use Rattle.std.specs.declared.random_state.RandomState.{RandomState}
use Rattle.trace_model.specs.Theory.Dependencies.{Dependency}

-- The words of 64 bits that are hashed: the thread and the lock in one, and each held lock.
abbrev pub hashed_words : Dependency → List ℕ
hashed_words d = (d.thread * 4294967296 + d.lock) ∷ d.held

-- The lower half of the keyed SipHash of the words.
abbrev pub dependency_hash : RandomState → Dependency → ℕ
dependency_hash state d =
    sip.finish (fold sip.write (initial_hasher state) (flat_map fed.u64 (hashed_words d)))
    % 4294967296
