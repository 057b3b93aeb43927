-- documents and streams (chapter 9)
pub mod StreamsBegin
pub mod StreamsComplete
pub mod StreamsSound
pub mod StreamsWhole
pub mod StreamsDepth
pub mod NestedStreams
pub mod StreamsFlat
pub mod StreamsFlatFit
pub mod DocumentsForm
pub mod DocumentEnds
pub mod StreamsForm
pub mod StreamExamples
pub mod StreamEdgeExamples
pub mod FormExamples
