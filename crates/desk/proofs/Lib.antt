pub mod Known
pub mod Outcome
pub mod Steps
pub mod Together
pub mod Responses
pub mod Turns
pub mod PassingOver
pub mod PausedAt
