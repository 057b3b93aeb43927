pub mod Abouts
pub mod Escapes
pub mod Invocations
pub mod Outcomes
pub mod Subcommands
pub mod Waits
