-- Moves and places: the definitions that the contracts cite.
pub mod Sooner
pub mod Spreading
pub mod Steps
pub mod Distances
