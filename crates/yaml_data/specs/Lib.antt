pub mod Keys
pub mod OwnLimits
pub mod Prints
pub mod Seen
pub mod TextBytes
