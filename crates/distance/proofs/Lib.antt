mod Sooner
mod Missing
mod Clearing
mod Spreads
mod Looking
mod Pulls
mod Calls
