pub mod Prelude
pub mod LineLemmas
pub mod SplitLemmas
pub mod RuleLemmas
pub mod ComparingLemmas
pub mod PlaceLemmas
pub mod Examples
pub mod CountLemmas
