pub mod TextLemmas
pub mod RefusedLemmas
pub mod Shapes
pub mod Members
pub mod SpecValues
pub mod ReadBackLemmas
pub mod JobLemmas
