-- the lemmas of the laws, by the production that they speak of
pub mod Prelude
pub mod Basics
pub mod Separation
pub mod Scalars
pub mod Flow
pub mod BlockScalars
pub mod Block
pub mod Documents
pub mod Meanings
pub mod OneStyle
pub mod Zeroed
