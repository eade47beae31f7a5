pub mod Written
pub mod Refusals
pub mod Briefs
pub mod Boxes
pub mod Texts
