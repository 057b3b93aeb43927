pub mod Prelude
pub mod Hidden
pub mod Tokens
pub mod Pointers
