pub mod Between
mod CoinWork
mod Courses
pub mod FileWays
mod FlushWork
mod HeaderWork
mod ImportedFiles
mod OneOffer
pub mod PassSteps
pub mod QuietWork
pub mod Telling
mod Works
