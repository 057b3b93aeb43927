pub mod Failures
pub mod Pushes
pub mod OneMore
pub mod Left
