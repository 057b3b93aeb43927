pub mod Meant
pub mod EventPlaces
pub mod Borrowed
pub mod Parts
pub mod Omitted
