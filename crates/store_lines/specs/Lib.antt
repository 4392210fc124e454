pub mod Coins
pub mod Passing
pub mod Serving
pub mod Taking
