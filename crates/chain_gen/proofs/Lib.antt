mod Examples
pub mod Ending
pub mod Heights
pub mod Making
pub mod Nonces
