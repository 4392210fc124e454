pub mod Backward
pub mod Restoring
