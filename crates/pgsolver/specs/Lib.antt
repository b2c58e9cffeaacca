-- PGSolver's text form of a game: what it says.
pub mod Called
pub mod Answering
pub mod Form
pub mod Ids
pub mod Listed
pub mod Read
pub mod Solutions
pub mod Table
pub mod Verdicts
pub mod Weights
pub mod Written
pub mod Wrongs
