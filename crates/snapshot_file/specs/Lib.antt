pub mod Dump
pub mod Examples
pub mod ItemReading
pub mod Fed
pub mod Items
pub mod Part
pub mod Steps
pub mod Text
