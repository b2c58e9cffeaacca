mod Views
mod Claims
mod Checks
mod Layers
mod Alikes
