pub mod Bounds
pub mod Cuts
pub mod Written
pub mod Landing
pub mod Faces
