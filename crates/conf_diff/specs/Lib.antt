pub mod Prelude
pub mod StateEdits
pub mod EditTexts
pub mod Freely
pub mod NamedEdits
