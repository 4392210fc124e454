pub mod Causes
pub mod FileLookup
pub mod HostRuns
pub mod Names
pub mod Reading
pub mod Streams
pub mod Told
pub mod Writes
