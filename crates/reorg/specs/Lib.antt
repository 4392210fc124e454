pub mod Advancing
pub mod Trials
