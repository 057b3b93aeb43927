pub mod Outside
pub mod Comments
pub mod Found
pub mod Presented
pub mod CommentLaws
