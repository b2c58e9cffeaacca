mod Labels
mod Plans
mod Marks
