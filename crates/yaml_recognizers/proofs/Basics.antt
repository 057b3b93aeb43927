-- what a recognizer returns; runs of characters, spaces, breaks and the starts of lines
pub mod Reading
pub mod Prefixes
pub mod Solid
pub mod Spaces
pub mod Repeated
pub mod Blanks
pub mod Breaks
pub mod LineStarts
