pub mod OnDisk
pub mod Written
