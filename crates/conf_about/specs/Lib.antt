pub mod Prelude
pub mod Abouts
pub mod AboutWords
pub mod ReadBack
