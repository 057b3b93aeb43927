pub mod Keeping
pub mod Setting
pub mod Blank
pub mod Missing
pub mod Kept
