pub mod LookLemmas
pub mod FindLemmas
pub mod NumberLemmas
pub mod WordLemmas
