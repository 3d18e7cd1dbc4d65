pub mod CutTurns
pub mod Filling
pub mod ModelWriting
pub mod Reading
pub mod Runs
