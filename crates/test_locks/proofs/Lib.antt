pub mod Entries
pub mod Going
pub mod LetGo
