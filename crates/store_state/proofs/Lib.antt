pub mod Appending
pub mod Breaking
mod BrokenImages
mod BrokenReferences
pub mod EachRecord
pub mod OneBlock
mod OneHeader
pub mod OtherRules
pub mod ReadingSteps
pub mod Settling
mod TwoReplayed
mod Unsettled
