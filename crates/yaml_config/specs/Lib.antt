pub mod Prelude
pub mod Changes
pub mod Edits
pub mod Kept
pub mod Limits
pub mod Undoing
pub mod Tallies
