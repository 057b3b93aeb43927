pub mod Trails
pub mod Commented
pub mod TrailsFit
pub mod StyleRows
pub mod CommentedLaws
