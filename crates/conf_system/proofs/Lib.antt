pub mod Torn
pub mod Images
pub mod Stops
pub mod Steps
pub mod Sound
pub mod Crashes
