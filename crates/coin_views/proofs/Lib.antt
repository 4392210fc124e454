pub mod Commits
pub mod Growth
