pub mod Blocks
pub mod Rising
pub mod Indices
pub mod Same
pub mod Sides
pub mod Lists
pub mod Widened
pub mod Passing
