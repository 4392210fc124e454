pub mod Asks
pub mod Ending
pub mod Points
pub mod Seen
pub mod ServerCalls
pub mod Service
pub mod Telling
