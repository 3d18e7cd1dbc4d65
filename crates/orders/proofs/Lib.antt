pub mod Serving
pub mod Answers
pub mod Counts
pub mod Quoted
pub mod Kept
pub mod QuoteCases
pub mod WordsBehind
