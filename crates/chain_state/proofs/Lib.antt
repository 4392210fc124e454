pub mod Alike
mod BlockOrder
mod LeastBlock
