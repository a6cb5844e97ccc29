-- The text that a piece takes.
use Rattle.std.specs.Prelude.{List, ℕ, ◌++◌}
use Rattle.reports.specs.Sinks.{KeepsWindow}
use Rattle.reports.specs.declared.piece.Piece.{Piece}

-- The piece keeps its part of the text, to which these bytes are added.
abbrev pub TakesText : Piece → List ℕ → Piece → Type 0
TakesText old bytes new = (taken : List ℕ) → KeepsWindow old.skip old.text.items taken →
    KeepsWindow new.skip new.text.items (taken ++ bytes)
