pub mod Faces
pub mod Sizes
pub mod Cutting
