pub mod Clean
pub mod Written
pub mod Pieces
