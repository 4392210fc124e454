pub mod Closing
pub mod Offers
pub mod Opening
pub mod Reading
pub mod Standing
pub mod Taking
pub mod Waits
