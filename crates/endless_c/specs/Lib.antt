-- What the C functions answer.
pub mod Codes
