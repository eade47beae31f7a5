pub mod Lists
pub mod SortLemmas
pub mod NodeLemmas
pub mod LegLemmas
pub mod NumberLemmas
pub mod EdgeLemmas
pub mod PipeLemmas
pub mod JoinLemmas
