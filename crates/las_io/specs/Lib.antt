pub mod Counts
pub mod Fetches
pub mod Moves
pub mod Names
pub mod Scripts
pub mod Shelves
pub mod Streams
