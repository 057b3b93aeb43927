-- flow scalars (7.3)
pub mod Joins
pub mod JoinSteps
pub mod QuotedScalars
pub mod QuotedSteps
pub mod SingleScalars
pub mod DoubleScalars
pub mod PlainRuns
pub mod PlainScalars
pub mod PlainSteps
pub mod PlainLongest
pub mod FlowScalars
pub mod WholeScalars
pub mod ScalarEnds
pub mod ScalarsInNodes
pub mod ScalarKeys
pub mod FlowScalarExamples
