pub mod Parts
pub mod Tail
