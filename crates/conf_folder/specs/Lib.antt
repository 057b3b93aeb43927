pub mod Modes
pub mod NewFolders
pub mod Refusals
