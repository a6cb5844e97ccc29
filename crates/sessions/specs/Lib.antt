pub mod Serving
pub mod Pending
pub mod Books
