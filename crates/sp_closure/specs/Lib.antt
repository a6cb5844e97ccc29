pub mod Pointers
pub mod Entering
pub mod Scratches
pub mod Reaching
pub mod Timestamps
pub mod Filling
