-- Where a text goes, piece by piece.
use Rattle.std.specs.Prelude.{◌≡◌, ℕ, ◌-◌, ◌^◌, ◌≤◌, List, ◌++◌, length, take, drop, Result, MatchResult}

-- Which text a sink has accepted so far, and the least length of a text that it refuses.
pub record Room (S : Type 0) : Type 1 where
  pub has : S → List ℕ → Type 0
  pub least : ℕ

-- The text is appended.
abbrev pub AppendsText : {S : Type 0} → Room S → S → List ℕ → S → Type 0
AppendsText room old text new = (written : List ℕ) → room.has old written →
    room.has new (written ++ text)

-- There is no room for the text.
abbrev pub Lacks : {S : Type 0} → Room S → S → List ℕ → Type 0
Lacks room old text = (written : List ℕ) → room.has old written → room.least ≤ length
    (written ++ text)

-- The text is appended, or there is no room for it.
abbrev pub Appends : {S E : Type 0} → Room S → S → List ℕ → Result (Unit {0}) E → S → Type 0
Appends room old text result new =
    MatchResult result (λ _. AppendsText room old text new) (λ _. Lacks room old text)

-- What a sink keeps that skips the first 2^64 bytes and keeps 4,096 after them: how many bytes are
-- still to be skipped, and the bytes. A text from an index on is a text after that many fewer
-- bytes.
pub record KeepsWindow (skip : ℕ) (kept taken : List ℕ) : Type 0 where
  pub left : skip ≡ 2 ^ 64 - length taken
  pub bytes : kept ≡ take 4096 (drop (2 ^ 64) taken)
