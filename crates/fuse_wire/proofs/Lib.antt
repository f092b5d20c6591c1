mod Appending
pub mod Cutting
pub mod Sampling
mod Filling
pub mod Fronts
pub mod Inside
pub mod Naming
pub mod Sizes
pub mod Takings
