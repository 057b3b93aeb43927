pub mod Prelude
pub mod Changes
pub mod Parents
pub mod Insertions
pub mod Moves
