pub mod Replay
pub mod Faults
pub mod Crashes
pub mod Spares
pub mod Runs
pub mod Log
pub mod Start
pub mod Memory
