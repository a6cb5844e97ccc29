pub mod Parts
pub mod Offline
pub mod Gathering
pub mod TaskRows
