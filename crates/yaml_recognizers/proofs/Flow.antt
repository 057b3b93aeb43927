-- flow nodes (7.4, 7.5)
pub mod FlowNodesBegin
pub mod FlowNodesWider
pub mod FlowNodesNarrower
pub mod FlowNodesComplete
pub mod FlowNodesSound
pub mod FlowNodesWhole
pub mod FlowNodesFound
pub mod FlowNodesDepth
pub mod FlowNodesForm
pub mod FlowFrames
pub mod StuckGaps
pub mod SinglePairs
pub mod OneLineText
