pub mod OpenLog
pub mod Opening
pub mod Reading
pub mod Records
