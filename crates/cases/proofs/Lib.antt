pub mod CutCases
pub mod StartCases
pub mod WindowCases
pub mod ResetCases
pub mod Witnesses
