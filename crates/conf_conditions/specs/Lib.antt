pub mod SameTrees
pub mod Conditions
