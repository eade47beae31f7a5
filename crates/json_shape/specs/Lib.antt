pub mod Documents
pub mod Arrays
pub mod Numbers
pub mod Grids
pub mod GridLaws
pub mod Examples
pub mod Plain
