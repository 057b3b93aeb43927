-- block scalars (8.1)
pub mod BlockHeaders
pub mod EmptyLines
pub mod TextLines
pub mod Indentation
pub mod BlockBodies
pub mod Trails
pub mod BlockScalarsWhole
pub mod BlockScalarFacts
pub mod BlockScalarSteps
pub mod BlockScalarsForm
pub mod BlockScalarExamples
