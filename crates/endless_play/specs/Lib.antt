pub mod Wishes
pub mod Settings
pub mod Turns
