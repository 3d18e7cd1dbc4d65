pub mod Desks
pub mod Quotes
