pub mod Signs
pub mod Classes
pub mod Places
pub mod Breaks
