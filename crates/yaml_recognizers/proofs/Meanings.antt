-- whole texts: their one meaning, the places of nodes, and the ranges of scalars
pub mod Steps
pub mod CanonicalFits
pub mod EventPrefixes
pub mod Ranges
pub mod StandingNodes
pub mod NodePlaces
pub mod NodesSpelled
pub mod NodesStart
pub mod Meaning
