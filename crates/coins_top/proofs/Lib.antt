pub mod Adding
pub mod FileLines
pub mod FoldingFiles
pub mod HostWork
pub mod LineCounts
pub mod Serving
