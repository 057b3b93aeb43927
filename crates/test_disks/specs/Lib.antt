pub mod Memory
pub mod Replay
pub mod Fused
pub mod Marks
