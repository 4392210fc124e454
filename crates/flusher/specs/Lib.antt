pub mod Changes
pub mod Flushing
pub mod Writing
