pub mod CoinHash
pub mod Examples
