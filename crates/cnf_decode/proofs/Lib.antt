pub mod DecodeLemmas
pub mod DecodedLemmas
pub mod AgreeLemmas
