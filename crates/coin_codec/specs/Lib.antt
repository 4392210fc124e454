pub mod Amount
pub mod CoinText
pub mod KeyText
pub mod Parts
pub mod Reading
pub mod ScriptForm
