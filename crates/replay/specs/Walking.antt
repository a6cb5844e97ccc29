-- The state of a walk along the list: which places were passed, and the last one of each kind.
use Rattle.std.specs.Prelude.{◌≡◌, ℕ, ◌<◌, ◌==◌, List, length, slice_get, Option, Some, MatchOption, slice_index_or, nat_eq, false, if◌then◌else◌}
use Rattle.std.specs.Bool.{Decides}
use Rattle.std.specs.HashMap.{get}
use Rattle.std.specs.List.{Contains}
use Rattle.std.specs.Option.{option_map_or}
use Rattle.trace_model.specs.declared.traces.event.Op.{Op}
use Rattle.trace_model.specs.declared.traces.event.Op.TheVariants.{Fork, Write}
use Rattle.trace_model.specs.Theory.Held.{BeginsOn}
use Rattle.trace_model.specs.Theory.Walk.{Walks}
use Rattle.replay.specs.declared.walked.Walked.{Walked}
use Rattle.trace_model.specs.Theory.Trace.{Trace, Does, op_eq}

-- The table's entry of the key after a place with operation `done`.
abbrev pub entry_after : (ℕ → Op) → Op → ℕ → ℕ → Option ℕ → Option ℕ
entry_after kind done place key before = if op_eq done (kind key) then Some place else before

-- The table's entry of the key after a place at which a section may begin.
abbrev pub noted_begun : Option ℕ → ℕ → ℕ → Option ℕ → Option ℕ
noted_begun begun place key before =
    if option_map_or (λ l. l == key) begun false then Some place else before

-- The last place of the list with the property.
abbrev pub IsLastWith : List ℕ → (ℕ → Type 0) → ℕ → Type 0
IsLastWith passed P z =
    (i : ℕ) × (slice_get passed i ≡ Some z) × P z
    × ((j u : ℕ) → i < j → slice_get passed j ≡ Some u → P u → ⊥)

-- The table has for each key the last place of the list with the property.
abbrev pub HasLastOfEachKey : List ℕ → (ℕ → ℕ → Type 0) → (ℕ → Option ℕ) → Type 0
HasLastOfEachKey passed P table =
    (key : ℕ) →
    MatchOption (table key) ((u : ℕ) → P key u → Contains passed u → ⊥) (IsLastWith passed (P key))

-- The tables are those of the passed list.
pub record IsWalked (s : Trace) (passed : List ℕ) (t : Walked) : Type 0 where
  pub walked : Walks s passed
  pub sized : length t.inside.items ≡ length s
  pub inside : (p : ℕ) → Decides (slice_index_or t.inside.items p false) (Contains passed p)
  pub forks : HasLastOfEachKey passed (λ key u. Does s u (Fork key)) (get nat_eq t.forks)
  pub writes : HasLastOfEachKey passed (λ key u. Does s u (Write key)) (get nat_eq t.writes)
  pub acquires : HasLastOfEachKey passed (λ key u. BeginsOn s u key) (get nat_eq t.acquires)
