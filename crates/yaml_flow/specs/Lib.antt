pub mod Prelude
pub mod FlowNodes
pub mod Frames
pub mod Scalars
