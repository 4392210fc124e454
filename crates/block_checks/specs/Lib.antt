pub mod Answer
pub mod Groups
pub mod Standing
