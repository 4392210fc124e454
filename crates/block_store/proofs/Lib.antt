pub mod IndexLaws
pub mod PayloadLaws
pub mod StoreLaws
mod Adding
pub mod DamagedFiles
mod Finding
pub mod HashSteps
mod HeaderSteps
mod Lookups
mod Opened
mod Undoing
