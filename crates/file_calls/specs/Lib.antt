pub mod Machine
pub mod Crash
pub mod Models
pub mod Laws
