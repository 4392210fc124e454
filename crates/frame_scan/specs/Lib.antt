pub mod Head
pub mod Scan
pub mod Search
