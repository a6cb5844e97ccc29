pub mod Published
pub mod Batches
pub mod Questions
pub mod Refused
pub mod Turns
pub mod Deliveries
pub mod Together
pub mod Clients
