pub mod Ready
pub mod Links
pub mod Parts
