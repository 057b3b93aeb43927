pub mod AboutLemmas
pub mod EscapeLemmas
pub mod ShownLemmas
pub mod NameLemmas
pub mod FitLemmas
pub mod OutcomeLemmas
