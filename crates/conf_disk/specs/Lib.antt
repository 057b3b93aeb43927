pub mod Folder
pub mod Image
pub mod Models
pub mod Moments
pub mod Log
pub mod LogLaws
pub mod Laws
