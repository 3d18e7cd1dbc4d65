pub mod StaysSafe
pub mod NarrowerCases
pub mod FilesStaySafe
