pub mod FileNames
pub mod JsonValues
pub mod Lines
pub mod Parsed
pub mod Replies
pub mod WordLines
