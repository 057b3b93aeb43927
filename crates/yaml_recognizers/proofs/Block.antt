-- block nodes (8.2)
pub mod BlockNodesBegin
pub mod BlockNodesEnd
pub mod BlockNodesComplete
pub mod BlockNodesSound
pub mod BlockKeys
pub mod BlockKeysWhole
pub mod KeyLeaves
pub mod BlockNodesWhole
pub mod BlockNodesDepth
pub mod BlockNodesForm
pub mod BlockFrames
pub mod BareNodes
