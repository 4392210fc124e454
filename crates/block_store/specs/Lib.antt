pub mod Bodies
pub mod Examples
pub mod Headers
pub mod Index
pub mod OpenStore
pub mod Opening
pub mod Reading
