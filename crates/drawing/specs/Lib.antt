-- The drawing of a game: what its text says.
pub mod Answer
pub mod Answering
pub mod Drawn
pub mod Form
pub mod Heard
pub mod Lexed
pub mod Passes
pub mod Reading
pub mod Rows
pub mod Sheets
pub mod Spelling
pub mod Telling
pub mod Wrong
