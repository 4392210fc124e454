pub mod BlockLaws
pub mod HasText
pub mod InputLaws
pub mod Loop
mod Places
mod Skips
mod Stacks
pub mod TxAlone
pub mod TxLaws
