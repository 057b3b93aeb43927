pub mod Prelude
pub mod Joined
pub mod Performing
pub mod Limits
pub mod Named
pub mod Parts
pub mod Lines
pub mod Lengths
