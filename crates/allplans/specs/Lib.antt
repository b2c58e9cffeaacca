-- What the contracts of this crate cite.
pub mod Sides
pub mod Games
pub mod Claims
pub mod Rounds
pub mod Checked
pub mod Sets
pub mod Walks
pub mod Distances
pub mod Alike
