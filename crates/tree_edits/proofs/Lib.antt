pub mod Prelude
pub mod Cuts
pub mod Kept
pub mod Behind
pub mod Elements
pub mod Points
pub mod SetLaws
