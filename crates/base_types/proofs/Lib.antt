pub mod Codecs
pub mod Fields
pub mod Groups
pub mod KeyOrders
mod Members
pub mod Obfuscated
pub mod OrderedMaps
pub mod ViewCalls
