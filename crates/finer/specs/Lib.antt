pub mod Finer
pub mod CutStaysSafe
pub mod CutFilesStaySafe
