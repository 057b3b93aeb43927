pub mod Prelude
pub mod Diffs
pub mod Choices
pub mod Differences
pub mod Walks
