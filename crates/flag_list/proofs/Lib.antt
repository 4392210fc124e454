pub mod ListLaws
pub mod Neighbours
pub mod Pushes
pub mod Unlinks
