pub mod Prefixes
pub mod Adding
pub mod Showing
pub mod Searching
pub mod Publishing
pub mod Lengths
