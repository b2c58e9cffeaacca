mod Alone
mod Trials
pub mod Lists
mod Leading
mod Avoiding
mod Marks
mod Solving
mod Tries
mod Calls
