pub mod Prelude
pub mod Indices
pub mod Performing
pub mod Joins
pub mod ChoiceLemmas
pub mod DiffLaws
pub mod Levels
pub mod Pointers
