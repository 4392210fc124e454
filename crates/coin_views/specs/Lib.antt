pub mod Growth
pub mod Layers
pub mod Lending
