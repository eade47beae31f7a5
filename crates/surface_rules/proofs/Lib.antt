pub mod EndLemmas
pub mod JoinLemmas
pub mod ServeLemmas
