pub mod Entries
pub mod Files
pub mod Shown
pub mod Places
pub mod Worlds
pub mod Runs
pub mod Reading
