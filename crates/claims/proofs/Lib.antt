pub mod Tabled
pub mod Wording
