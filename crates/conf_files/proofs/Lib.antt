pub mod Masks
pub mod Moving
pub mod Standing
pub mod Filled
pub mod Replaced
pub mod Replacing
pub mod Created
pub mod Making
