pub mod Images
pub mod Log
pub mod Moments
pub mod Stops
pub mod Worn
