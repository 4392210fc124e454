pub mod Durable
pub mod Moved
pub mod Reached
pub mod Unsynced
