pub mod Blanks
pub mod Signs
pub mod Lines
pub mod Places
pub mod Laid
pub mod Weaving
pub mod Keeping
