pub mod Prelude
pub mod Blocks
pub mod Comparing
pub mod Taking
pub mod Parts
pub mod Names
pub mod Sounds
pub mod Styles
