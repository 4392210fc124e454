mod Amounts
mod Order
pub mod PayableTxs
mod Pushes
mod Twins
