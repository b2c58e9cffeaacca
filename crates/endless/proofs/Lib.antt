pub mod Tests
pub mod Nth
pub mod Unique
mod Exclusive
pub mod Places
pub mod Pigeonhole
pub mod Sets
mod Plays
mod Rounds
mod Plans
mod Heads
mod Heaviest
mod Shifting
mod Within
pub mod Steps
mod Attractors
mod Attracting
mod Determinacy
pub mod Only
mod Cases
pub mod Theorems
pub mod Readers
mod BitLaws
pub mod CountLaws
mod SetLaws
mod Scans
pub mod Reading
mod Tallies
mod PositionLaws
mod Starts
pub mod View
mod Pushed
mod Pulling
pub mod Among
mod Lists
mod Preds
pub mod Sources
mod Own
mod Totals
mod MovesAt
mod Removed
mod Ways
pub mod Working
mod Looking
mod Queueing
mod Turns
mod Levels
mod Parts
mod Gathering
mod Picking
mod MemberLists
mod Behind
mod Recounting
mod Layouts
pub mod Solving
mod Reaching
mod Looks
mod Tracing
mod Losing
mod Checks
mod Falling
