pub mod DocumentLemmas
pub mod ArrayLemmas
pub mod EachLemmas
pub mod GridLemmas
pub mod LawLemmas
pub mod LineFeed
pub mod Printed
