pub mod Small
pub mod Touching
pub mod WindowEnd
