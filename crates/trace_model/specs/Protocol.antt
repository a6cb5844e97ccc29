-- The protocol: requests and replies as bytes, the machine that answers them, and its runs. All of
-- it is this project's profile.
pub mod Refusals
pub mod Frames
pub mod FormerFrames
pub mod Replies
pub mod Machine
pub mod EventLists
pub mod Batches
pub mod Runs
pub mod Bounds
pub mod RunLaws
