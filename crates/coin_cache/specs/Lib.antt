pub mod Contents
pub mod Entries
pub mod Flags
pub mod Inside
