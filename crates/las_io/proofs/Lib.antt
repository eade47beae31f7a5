pub mod Fetched
pub mod Given
pub mod Pieces
pub mod Places
pub mod Rises
