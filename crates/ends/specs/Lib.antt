-- Games with ends: the definitions that the contracts cite.
pub mod Ends
pub mod Says
pub mod Mending
pub mod Rows
