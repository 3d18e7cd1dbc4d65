pub mod StaysSafe
pub mod FilesStaySafe
