pub mod Down
pub mod Keeping
pub mod Members
pub mod Sorting
pub mod Adding
pub mod Listing
