pub mod Divided
pub mod Larger
pub mod CutStaysSafe
pub mod CutFilesStaySafe
pub mod FinerCases
