pub mod Locks
pub mod Models
pub mod Laws
pub mod Taking
