pub mod Prelude
pub mod FaultLemmas
pub mod PairLemmas
pub mod WordLemmas
pub mod ReadLemmas
pub mod AddLemmas
