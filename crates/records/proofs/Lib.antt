pub mod Walls
pub mod Places
