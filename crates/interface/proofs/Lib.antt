pub mod Held
pub mod Reading
pub mod Checking
pub mod Deciding
pub mod Demand
pub mod ForC
pub mod WordsBehind
