pub mod Classes
pub mod Places
pub mod Runs
pub mod Breaks
