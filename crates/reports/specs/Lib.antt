pub mod Printed
pub mod Text
pub mod Decades
pub mod Sinks
pub mod Remaining
pub mod Pieces
