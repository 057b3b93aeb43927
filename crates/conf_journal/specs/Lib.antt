pub mod Prelude
pub mod Store
pub mod Held
pub mod Appends
pub mod Fails
