-- The smaller game in which alike places are one: the definitions that the contracts cite.
pub mod Alike
pub mod Says
pub mod Gathering
pub mod Refining
pub mod Groups
pub mod Partitions
pub mod Rounds
pub mod Numbering
pub mod Writing
pub mod Promises
pub mod Carrying
