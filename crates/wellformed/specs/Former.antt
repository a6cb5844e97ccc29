-- The definitions without inner acquires, under which a thread cannot acquire a lock that it holds.
-- Definitions that are the same in both are not repeated.
pub mod Held
pub mod Lawful
pub mod Lookups
pub mod Dependencies
pub mod Reordering
pub mod Rows
