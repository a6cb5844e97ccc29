pub mod Gate
pub mod Owners
pub mod Threads
pub mod Tables
pub mod Former
pub mod Flat
pub mod FirstUnlawful
