pub mod Faults
pub mod Replay
pub mod Spares
pub mod Log
pub mod Runs
pub mod Crashes
pub mod Memory
