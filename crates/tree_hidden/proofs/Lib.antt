pub mod Prelude
pub mod PathLemmas
pub mod PointerLemmas
pub mod ShownLemmas
