pub mod Keeps
pub mod Moments
pub mod MomentsLaws
pub mod Names
pub mod Copying
pub mod States
pub mod Opened
