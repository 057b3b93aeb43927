-- texts, and what recognizers give
pub mod Prelude
pub mod Prefixes
pub mod Reading
-- the canonical form
pub mod CanonicalComments
pub mod CanonicalFlowNodes
pub mod CanonicalBlockScalars
pub mod CanonicalBlockNodes
pub mod CanonicalStreams
-- the recognizers, by production
pub mod Ends
pub mod Comments
pub mod Gaps
pub mod Repeated
pub mod Joins
pub mod QuotedScalars
pub mod PlainScalars
pub mod FlowScalars
pub mod BlockScalars
pub mod FlowNodes
pub mod BlockNodes
pub mod Streams
pub mod Scalars
pub mod Recognizers
-- what laws of them speak of
pub mod WholeScalars
pub mod QuotedSteps
pub mod BlockScalarFacts
pub mod OneLine
pub mod FlowFrames
pub mod BlockFrames
pub mod StandingNodes
pub mod NodePlaces
pub mod Ranges
pub mod NestedStreams
pub mod CanonicalForms
pub mod StyleLaws
pub mod Closings
pub mod Zeroed
