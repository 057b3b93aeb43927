mod Examples
pub mod OneTree
