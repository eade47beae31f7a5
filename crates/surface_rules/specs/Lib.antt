pub mod Rules
pub mod LegSheets
pub mod Serving
