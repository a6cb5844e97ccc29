-- Lemmas of frames, batches, the machine and its runs.
pub mod Batches
pub mod BatchFrames
pub mod Summary
pub mod Bounds
pub mod Taking
pub mod Bytes
pub mod Written
pub mod Leading
pub mod FormerTexts
pub mod LeadingSizes
pub mod Readings
pub mod Texts
