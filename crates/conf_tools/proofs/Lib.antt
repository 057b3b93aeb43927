pub mod Prelude
pub mod WordLemmas
pub mod Formatting
pub mod ReportLemmas
pub mod SessionLemmas
pub mod TailLemmas
pub mod CallLemmas
pub mod ExportLemmas
pub mod ChangeLemmas
mod ConfigFileLemmas
mod EditLemmas
pub mod ReadLemmas
pub mod FoundLemmas
pub mod DroppedLemmas
pub mod HeldLemmas
pub mod ShowLemmas
pub mod PartLemmas
pub mod EndingLemmas
pub mod FileLemmas
pub mod StyleLemmas
pub mod OutcomeLemmas
pub mod StoreLemmas
pub mod KeepingLemmas
mod MadeLemmas
pub mod TellingLemmas
pub mod NameLemmas
