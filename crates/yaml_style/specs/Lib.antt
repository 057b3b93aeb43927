pub mod Prelude
pub mod Lines
pub mod Findings
pub mod Seen
pub mod Comparing
pub mod ComparingLaws
pub mod Checking
