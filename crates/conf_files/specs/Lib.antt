pub mod Modes
pub mod Standing
pub mod Replacing
pub mod Creating
pub mod Steps
