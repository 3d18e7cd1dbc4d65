pub mod StartsInside
pub mod WithoutWindow
