pub mod OneMore
pub mod Bares
pub mod Failures
pub mod Left
pub mod Files
pub mod Pushes
pub mod Chosen
