-- What lines claim of places, and the words of an answer.
pub mod Answered
pub mod Tables
