mod Chunks
pub mod Events
pub mod Images
