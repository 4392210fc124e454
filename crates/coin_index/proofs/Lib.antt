pub mod Befores
pub mod Chains
pub mod Finds
pub mod IndexLaws
pub mod Links
pub mod Moves
pub mod Unlinks
pub mod Words
