pub mod Members
pub mod Entries
pub mod Documents
pub mod Texts
pub mod Kept
pub mod Puts
