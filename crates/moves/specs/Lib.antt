-- Winning moves: the definitions that the contracts cite.
pub mod Alone
pub mod Moves
pub mod Marking
pub mod Led
pub mod Tries
