-- The buffer of a sink (this project's profile).
use Rattle.std.specs.Prelude.{ℕ, List, take, drop, Option, Some, None, refl}
use Rattle.std.specs.Io.KnownBytes.{append_known}
use Rattle.sessions.specs.Serving.{IsKnownPrefix}

-- the buffered bytes between two indices
abbrev pub buffered_bytes : List ℕ → ℕ → ℕ → List ℕ
buffered_bytes buffer start end = drop start (take end buffer)

-- the bytes of the writer are a prefix of all bytes that the sink took
pub sent_begins : (known : Option (List ℕ)) (held : List ℕ) →
    IsKnownPrefix known (append_known known held)
sent_begins None held = tt
sent_begins (Some front) held = (held, refl)
