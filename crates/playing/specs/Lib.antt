-- Playing a solved game: the definitions that the contracts cite.
pub mod Windows
pub mod Boards
pub mod Trails
pub mod Solutions
