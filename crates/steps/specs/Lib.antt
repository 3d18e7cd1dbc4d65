pub mod Ready
pub mod Handing
