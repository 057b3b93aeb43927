pub mod Prelude
pub mod ChangeLaws
pub mod DepthLemmas
pub mod Located
pub mod Measured
pub mod Planned
pub mod SizeLemmas
pub mod TextTreeLemmas
mod TallyLemmas
