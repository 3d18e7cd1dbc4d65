pub mod Asked
pub mod Cuts
pub mod TableWriting
pub mod TableReading
