pub mod StartsInside
pub mod WithoutWindow
pub mod StartsInsideCases
pub mod WithoutWindowCases
