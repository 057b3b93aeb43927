pub mod SameLemmas
pub mod ConditionLemmas
