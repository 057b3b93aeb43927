pub mod Prelude
pub mod Reading
pub mod Runs
pub mod Stores
pub mod Held
pub mod Appends
pub mod Joins
pub mod Fails
