pub mod Adding
pub mod Appending
mod BlockHistory
pub mod Early
mod Empty
mod FirstClauses
mod FirstRun
pub mod FlushLists
mod GenesisSteps
mod ImportSteps
pub mod Induction
pub mod Joining
pub mod Keeping
mod LaterRun
pub mod LineFiles
pub mod LineWays
pub mod Marking
mod Meets
pub mod Opening
mod StoreLaws
pub mod Telling
mod WholeReplies
pub mod Working
