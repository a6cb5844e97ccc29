-- Tables of the owners of locks.
use Rattle.std.specs.Prelude.{ℕ, List, Option, None, nat_eq, IsSome}
use Rattle.std.specs.Option.{option_flatten}
use Rattle.std.specs.Map.{lookup}
use Rattle.trace_model.specs.declared.traces.owner.Owner.{Owner}
use Rattle.trace_model.specs.declared.traces.event.Op.{Op}
use Rattle.trace_model.specs.declared.traces.event.Op.TheVariants.{Acquire, Release}

-- The owner of each lock, by lock number.
abbrev pub OwnerTable : Type 0
OwnerTable = List (ℕ × Option Owner)

-- The owner of the lock in the table, or none.
abbrev pub owner_in : OwnerTable → ℕ → Option Owner
owner_in m lock = option_flatten (lookup (nat_eq lock) m)

-- The lock has an entry.
abbrev pub HasLock : OwnerTable → ℕ → Type 0
HasLock m lock = IsSome (lookup (nat_eq lock) m)

-- The owner of the lock that the operation names, or none.
abbrev pub op_owner : OwnerTable → Op → Option Owner
op_owner m (Acquire l) = owner_in m l
op_owner m (Release l) = owner_in m l
op_owner m _ = None
