pub mod Prelude
pub mod ScanPlaces
pub mod Markers
pub mod Lines
pub mod Gaps
pub mod Classes
pub mod Blocks
