pub mod Headers
pub mod Scanning
pub mod Scans
pub mod Searching
pub mod Steps
pub mod Windows
