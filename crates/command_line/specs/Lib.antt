pub mod Forms
pub mod Looks
pub mod Matches
pub mod Numbers
pub mod Readers
pub mod Rows
pub mod Words
