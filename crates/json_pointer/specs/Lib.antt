pub mod Prelude
pub mod Pointers
pub mod Tokens
