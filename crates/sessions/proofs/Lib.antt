pub mod Puts
pub mod Buffered
pub mod Answering
pub mod Faults
pub mod SessionTurns
pub mod Machines
