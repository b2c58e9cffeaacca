mod Windows
pub mod Boards
