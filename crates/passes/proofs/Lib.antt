pub mod AfterWords
pub mod PartWords
pub mod Joined
pub mod Blocks
pub mod Locations
pub mod Handing
pub mod Reading
pub mod Landing
