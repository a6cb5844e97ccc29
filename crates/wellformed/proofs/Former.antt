-- On a flat trace, the definitions without inner acquires agree with the present ones.
pub mod Held
pub mod Lawful
pub mod Lookups
pub mod Rows
