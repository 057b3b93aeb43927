-- comments and separation (6.6, 6.7)
pub mod LineEnds
pub mod CommentsComplete
pub mod CommentsSound
pub mod CommentsDepth
pub mod CommentsForm
pub mod GapsComplete
pub mod GapsSound
