pub mod Parts
pub mod Found
