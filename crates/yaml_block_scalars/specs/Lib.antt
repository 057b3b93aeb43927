pub mod Prelude
pub mod Meant
pub mod Pieces
pub mod HeaderPlaces
pub mod Lines
pub mod Found
