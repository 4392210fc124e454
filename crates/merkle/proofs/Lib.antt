pub mod Commitments
pub mod Rising
