pub mod Tables
pub mod EntryTable
pub mod DerivationSearch
pub mod Needed
pub mod Moving
