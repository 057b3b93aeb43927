mod BlankEnds
pub mod Ranges
mod Planning
pub mod FoundTexts
pub mod Keeping
pub mod Marks
pub mod LineEnds
pub mod One
pub mod ScalarParts
pub mod Walks
pub mod Weaving
pub mod Wholes
