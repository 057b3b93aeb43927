pub mod Prelude
pub mod Standing
pub mod Folds
pub mod PlainPlaces
pub mod SingleScalars
pub mod DoubleScan
pub mod DoubleBorrowed
