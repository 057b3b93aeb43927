pub mod Staying
pub mod Going
pub mod Told
pub mod Holding
pub mod Steps
