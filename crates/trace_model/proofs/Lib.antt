pub mod Lists
pub mod Theory
pub mod Protocol
mod WorkedTraces
