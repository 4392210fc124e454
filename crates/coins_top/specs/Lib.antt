pub mod FileFolds
pub mod FoldState
pub mod Folds
pub mod HostLines
pub mod Run
pub mod ServerState
