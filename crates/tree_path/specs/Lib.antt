pub mod Prelude
pub mod Chains
pub mod Paths
pub mod Steps
pub mod Tables
pub mod Undoing
