pub mod Ready
pub mod Parts
pub mod Checked
pub mod Joining
pub mod Placing
