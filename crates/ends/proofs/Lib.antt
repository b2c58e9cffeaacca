mod Made
mod Forms
mod Theorems
mod Mending
mod Solving
mod FirstRow
