-- The theory: traces, held locks, lawful events, reorderings, closures, dependencies, cycles and
-- rows.
pub mod Trace
pub mod Held
pub mod Lawful
pub mod Holders
pub mod Lookups
pub mod Reordering
pub mod Walk
pub mod Closure
pub mod Dependencies
pub mod Cycles
pub mod Rows
pub mod Laws
pub mod EventLaws
pub mod Refutation
