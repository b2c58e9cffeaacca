-- A game that is read from a file: what its text says.
pub mod Forms
pub mod Shown
